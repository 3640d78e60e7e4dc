-- `machine::rows_of` meets its contract.
use Rattle.machine.proofs.Steps.{met-none}
use Rattle.machine.proofs.rows_of.Goals as goal

pub rows_from-requires-clause-met_clear : goal.rows_from-requires-clause-met_clear
rows_from-requires-clause-met_clear c = met-none _ _ 2
