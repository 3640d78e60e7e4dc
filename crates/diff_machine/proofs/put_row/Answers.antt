use Rattle.std.proofs.Common.{arith, rules, ap}
use Rattle.std.specs.Prelude.{Option}
use Rattle.diff_rule.specs.declared.Aspect.TheVariants.{Cell}
use Rattle.diff_rule.specs.declared.Mark.{Mark}
use Rattle.diff_rule.specs.Differences.{noted}
use Rattle.diff_rule.proofs.Stored.{stores-other}
use Rattle.diff_rule.proofs.Filled.{filled_none, filled_next, filled-all}
use Rattle.diff_machine.specs.Machines.{cell_differs, row_by}
use Rattle.diff_machine.proofs.put_row.Goals as goal

pub loop-class-init : goal.loop-class-init
loop-class-init c = search (rules, filled_none)

pub loop-class-preserved : goal.loop-class-preserved
loop-class-preserved c =
    let a = c.args in
    let l = c.loop-class in
    let p = c.put_noted-at in (
      omega (arith, l.invariant.0, p.ensures.1),
      filled_next (cell_differs a.one.now a.other.now a.machines a.row) a.list.now l.list p.new.list a.to l.at p.result 0 l.class (omega arith) l.invariant.1
          (stores-other l.list p.new.list l.at p.result _ _ (ap (λ (m : Option Mark). noted a.machines.direction Cell a.row l.class m) c.compare_cells-mark.ensures) p.ensures.0),
    )

pub returns : goal.returns
unfolding row_by
returns c = search (rules, filled-all)
