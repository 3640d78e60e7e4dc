-- `machine::row_cells` meets its contract.
use Rattle.std.proofs.Common.{◌≡◌, ◌-◌}
use Rattle.machine.specs.Rows.{cells_fault, row_fault, raised, raised_by, unless}
use Rattle.machine.proofs.row_cells.Given as goal

abbrev pub invariant-loop-class : goal.invariant-loop-class
invariant-loop-class l =
    unless (row_fault l.table l.here l.row) (raised_by l.table l.here l.row l.s)
    ≡ unless (cells_fault l.table l.here l.row (l.classes - l.class) l.class) (raised l.table l.here l.row (l.classes - l.class) l.class l.rows)
