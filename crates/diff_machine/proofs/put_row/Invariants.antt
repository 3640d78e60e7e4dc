-- `diff_machine::put_row` meets its contract.
use Rattle.diff_machine.specs.Machines.{cell_differs}
use Rattle.diff_rule.proofs.Filled.{Filled}
use Prim.Native.Nat.{◌+◌, ◌*◌, ◌≤◌}
use Rattle.diff_machine.proofs.put_row.Given as goal

abbrev pub invariant-loop-class : goal.invariant-loop-class
invariant-loop-class l =
    (l.at ≤ l.to + 6 * l.class) × Filled (cell_differs l.one l.other l.machines l.row) l.initial.list l.list l.to l.at 0 l.class
