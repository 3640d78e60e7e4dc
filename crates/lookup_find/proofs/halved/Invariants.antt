-- `lookup_find::halved` meets its contract.
use Rattle.lookup_find.proofs.Laws.{Halving}
use Prim.Native.Nat.{◌+◌, ◌*◌, ◌≤◌, ◌<◌, ◌^◌}
use Rattle.lookup_find.proofs.halved.Given as goal

abbrev pub invariant-loop-left : goal.invariant-loop-left
invariant-loop-left l = Halving l.table l.format l.at l.glyph l.count l.start l.p l.left l.looks × ((l.p + 6 * l.left < 2 ^ 40) × (l.looks + l.left ≤ l.count))

abbrev pub decreases-loop-left : goal.decreases-loop-left
decreases-loop-left l = l.left
