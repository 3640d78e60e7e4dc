-- `sheet_machine::is_least` meets its contract. The loop's invariant: the cells that were passed lead below `reached`, and no closed number is less. Assumes nothing.
use Rattle.sheet_machine.specs.Machine.{row_at}
use Rattle.sheet_machine.proofs.LeastLaws.{Reached}
use Rattle.sheet_machine.proofs.is_least.Given as goal

abbrev pub invariant-loop-cell : goal.invariant-loop-cell
invariant-loop-cell l = Reached (row_at l.bytes l.entries l.cells) l.grid.classes l.grid.rows l.reached l.cell
