-- `diff_machine::put_cells` meets its contract.
use Rattle.diff_machine.specs.Machines.{row_by}
use Rattle.diff_rule.proofs.Filled.{Filled}
use Prim.Native.Nat.{◌+◌, ◌*◌, ◌≤◌, ◌^◌}
use Rattle.diff_machine.proofs.put_cells.Given as goal

abbrev pub invariant-loop-row : goal.invariant-loop-row
invariant-loop-row l =
    (l.at ≤ l.to + 2 ^ 20 * l.row) × Filled (row_by l.one l.other l.machines) l.initial.list l.list l.to l.at 0 l.row
