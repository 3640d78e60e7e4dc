-- `lookup_targets::places_fault` meets its contract.
use Rattle.lookup_targets.specs.Values.{place_fault, Judged, Ahead}
use Rattle.fields.specs.Walk.{each}
use mathlib.Core.Path.{◌≡◌}
use Prim.Native.Nat.{◌+◌, ◌*◌}
use Rattle.lookup_targets.proofs.places_fault.Given as goal

abbrev pub invariant-loop-left : goal.invariant-loop-left
invariant-loop-left l =
    (each (place_fault l.table l.glyphs l.kind l.base) (λ q. q + 2) l.count l.place ≡ each (place_fault l.table l.glyphs l.kind l.base) (λ q. q + 2) l.left l.p)
    × Judged l.table l.glyphs l.judged
    × (l.p + 2 * l.left ≡ l.place + 2 * l.count)
    × Ahead l.table l.glyphs l.kind l.base l.ahead

abbrev pub decreases-loop-left : goal.decreases-loop-left
decreases-loop-left l = l.left
