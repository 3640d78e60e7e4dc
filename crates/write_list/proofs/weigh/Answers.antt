use Rattle.write_list.proofs.Laws.{weight-more, weight-none}
use native.Mathlib.Omega.{arith}
use mathlib.Core.Path.{sym, ◌∙◌}
use Prim.Native.Nat.{◌+◌, ◌-◌}
use Rattle.write_list.proofs.weigh.Goals as goal

pub loop-i-preserved : goal.loop-i-preserved
loop-i-preserved c =
    let a = c.args in
    let l = c.loop-i in
    let x = c.u8_at-sum in (
      omega (arith, x.ensures.1),
      omega (arith, x.ensures.1, c.requires.1),
      weight-more a.table.now (a.count - l.i) (a.count - (l.i + 1)) (a.first + l.i) (a.first + (l.i + 1)) l.sum l.total x.result (omega arith) (omega arith) x.ensures.0 ∙ l.invariant.2,
    )

pub returns : goal.returns
returns c =
    let l = c.loop-i in
    (sym (weight-none c.args.table.now _ (c.args.first + l.i) l.sum l.total (omega arith)) ∙ l.invariant.2, omega (arith, c.requires.1))
