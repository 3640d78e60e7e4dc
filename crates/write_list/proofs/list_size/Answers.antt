use Rattle.write_list.proofs.Laws.{size-cons, size_none, list-bytes}
use native.Mathlib.Omega.{arith}
use mathlib.Core.Path.{sym}
use Prim.Native.Nat.{◌+◌, ◌-◌}
use Rattle.write_list.proofs.list_size.Goals as goal

pub loop-init : goal.loop-init
loop-init c =
    let n = c.u32_at-count in
    (omega arith, omega arith, sym (list-bytes c.args.table.now c.args.place n.result _ n.ensures.0 (omega arith)))

pub loop-preserved : goal.loop-preserved
loop-preserved c =
    let l = c.loop in
    let p = c.next_place-at in
    let n = c.u32_at-count.result in
    let e = size-cons c.args.table.now (n - l.counter) (n - (l.counter + 1)) l.at p.result (omega arith) p.ensures.0 in
    (p.ensures.1, omega (arith, c.action_size-size.ensures.1), omega (arith, l.invariant.2, e, c.action_size-size.ensures.0))

pub returns : goal.returns
returns c =
    let l = c.loop in
    (omega (arith, l.invariant.2, size_none c.args.table.now (c.u32_at-count.result - l.counter) l.at (omega arith)), omega (arith, c.u32_at-count.ensures.1))
