-- `machine::rows_from` meets its contract.
use Rattle.std.proofs.Common.{◌≡◌, ◌-◌, ◌≤◌}
use Rattle.machine.specs.Rows.{fault_from, count_from, unless, rows_of, Met}
use Rattle.machine.proofs.rows_from.Given as goal

abbrev pub invariant-loop-row : goal.invariant-loop-row
invariant-loop-row l =
    (rows_of l.table l.here ≡ unless (fault_from l.table l.here (256 - l.row) l.row l.s) (count_from l.table l.here (256 - l.row) l.row l.s))
    × (l.s ≤ 256)
    × Met l.table l.here l.s l.met

abbrev pub decreases-loop-row : goal.decreases-loop-row
decreases-loop-row l = 256 - l.row
