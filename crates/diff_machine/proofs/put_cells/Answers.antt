use Rattle.std.proofs.Common.{arith, rules}
use Rattle.diff_rule.proofs.Filled.{filled_none, filled_next, filled-all}
use Rattle.diff_machine.specs.Machines.{row_by, cells_by}
use Rattle.diff_machine.proofs.put_cells.Goals as goal

pub loop-row-init : goal.loop-row-init
loop-row-init c = search (rules, filled_none)

pub loop-row-preserved : goal.loop-row-preserved
loop-row-preserved c =
    let a = c.args in
    let l = c.loop-row in
    let p = c.put_row-at in (
      omega (arith, l.invariant.0, p.ensures.1),
      filled_next (row_by a.one.now a.other.now a.machines) a.list.now l.list p.new.list a.to l.at p.result 0 l.row (omega arith) l.invariant.1 p.ensures.0,
    )

pub returns : goal.returns
unfolding cells_by
returns c = search (rules, filled-all)
