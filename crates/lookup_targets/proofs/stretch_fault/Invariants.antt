use Rattle.std.proofs.Common.{◌≡◌, ◌+◌, ◌*◌, ◌-◌, ◌≤◌}
use Rattle.fields.specs.Walk.{each}
use Rattle.lookup_targets.specs.Values.{place_fault, Judged}
use Rattle.lookup_targets.proofs.stretch_fault.Given as goal

abbrev pub invariant-loop-untold : goal.invariant-loop-untold
invariant-loop-untold l =
    (each (place_fault l.table l.glyphs l.kind l.base) (λ q. q + 2) l.count l.place
    ≡ each (place_fault l.table l.glyphs l.kind l.base) (λ q. q + 2) (l.count - l.value) (l.place + 2 * l.value))
    × Judged l.table l.glyphs l.judged
    × (l.value ≤ l.count)

abbrev pub decreases-loop-untold : goal.decreases-loop-untold
decreases-loop-untold l = l.count - l.value
