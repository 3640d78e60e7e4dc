-- `lookup_runs::next_run` meets its contract.
use Rattle.std.proofs.Common.{sym, ◌∙◌, arith}
use Rattle.lookup.proofs.Pass.{serves-inside}
use Rattle.lookup_runs.specs.Runs.{next_run}
use Rattle.lookup_runs.proofs.Laws.{every-follows}
use Rattle.lookup_runs.proofs.next_run.Goals as goal

pub returns-in-0 : goal.returns-in-0
unfolding next_run
returns-in-0 c = let k = c.requires in (grind arith, every-follows _ _ _ _ k.1.1.1 k.1.0 k.0 (sym k.1.1.0 ∙ c.in-0.is))

pub units_run-requires-clause-with_units : goal.units_run-requires-clause-with_units
units_run-requires-clause-with_units c = (λ e. omega arith, (λ e. omega arith, serves-inside _ _ _ c.requires.1.1.0 c.requires.1.1.1))
