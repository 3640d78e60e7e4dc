use Rattle.std.proofs.Common.{ℕ, ◌+◌, ◌*◌, ◌<◌, ◌≤◌}
use Rattle.lookup_targets.specs.Values.{Told}
use Rattle.lookup_targets.proofs.first_untold.Given as goal

abbrev pub invariant-loop-value : goal.invariant-loop-value
invariant-loop-value l = (i : ℕ) → l.from ≤ i → i < l.value → Told l.table l.kind l.base l.judged (l.place + 2 * i)
