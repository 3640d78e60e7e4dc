use Rattle.write_list.proofs.Laws.{hash-more, hash-none, hash-all}
use native.Mathlib.Omega.{arith}
use mathlib.Core.Path.{refl, sym, ◌∙◌}
use Prim.Native.Nat.{◌+◌, ◌-◌}
use Rattle.write_list.proofs.list_hash.Goals as goal

pub loop-init : goal.loop-init
loop-init c =
    let n = c.u32_at-count in
    (omega arith, omega (arith, n.ensures.1), hash-all c.args.table.now c.args.place n.result _ _ n.ensures.0 (omega arith) refl)

pub loop-preserved : goal.loop-preserved
loop-preserved c =
    let l = c.loop in
    let p = c.next_place-at in
    let n = c.u32_at-count.result in (
      p.ensures.1,
      omega arith,
      hash-more c.args.table.now (n - l.counter) (n - (l.counter + 1)) l.at p.result l.hash c.action_hash.result (omega arith) p.ensures.0 c.action_hash.ensures.0 ∙ l.invariant.2,
    )

pub returns : goal.returns
returns c =
    let l = c.loop in
    (sym (hash-none c.args.table.now _ l.at l.hash (omega arith)) ∙ l.invariant.2, omega arith)
