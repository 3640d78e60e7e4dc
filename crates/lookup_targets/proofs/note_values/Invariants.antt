-- `lookup_targets::note_values` meets its contract.
use Rattle.lookup_targets.specs.Values.{note_along}
use mathlib.Core.Path.{◌≡◌}
use Prim.Native.Nat.{ℕ, ◌+◌, ◌*◌, ◌≤◌}
use lib.ListN.{length}
use Rattle.lookup_targets.proofs.note_values.Given as goal

abbrev pub invariant-loop-left : goal.invariant-loop-left
invariant-loop-left l =
    ((turns : ℕ) × (l.left ≤ turns) × (note_along l.count l.place l.count l.initial.ahead ≡ note_along turns l.p l.left l.ahead)) × (l.p + 2 * l.left ≡ l.place + 2 * l.count) × (l.left ≤ l.count) × (length l.ahead ≡ length l.initial.ahead)

abbrev pub decreases-loop-left : goal.decreases-loop-left
decreases-loop-left l = l.left
