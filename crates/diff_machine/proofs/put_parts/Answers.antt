-- `diff_machine::put_parts` meets its contract.
use Rattle.diff_rule.proofs.Stored.{stores-two}
use Rattle.diff_machine.specs.Machines.{classes_by, cells_by}
use native.Mathlib.Omega.{arith}
use Rattle.diff_machine.proofs.put_parts.Goals as goal

pub returns : goal.returns
returns c =
    let a = c.args in
    let x = c.put_classes-middle in
    let y = c.put_cells in (
      stores-two (classes_by a.one.now a.other.now a.machines) (cells_by a.one.now a.other.now a.machines)
          a.list.now x.new.list y.new.list a.to x.result y.result x.ensures.0 y.ensures.0,
      omega (arith, x.ensures.1, y.ensures.1),
    )
