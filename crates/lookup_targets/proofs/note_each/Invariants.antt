use Rattle.std.proofs.Common.{◌≡◌, ◌+◌, ◌*◌, ◌-◌}
use Rattle.lookup_targets.specs.Values.{note_each}
use Rattle.lookup_targets.proofs.note_each.Given as goal

abbrev pub invariant-loop-value : goal.invariant-loop-value
invariant-loop-value l = note_each l.place l.count l.initial.ahead ≡ note_each (l.place + 2 * l.value) (l.count - l.value) l.ahead
