use Rattle.write_cluster.specs.Hash.{pair_hash}
use Rattle.write_cluster.proofs.Laws.{hash-more, hash-end, hash-all}
use native.Mathlib.Omega.{arith}
use mathlib.Core.Path.{ap, sym, ◌∙◌}
use Rattle.write_cluster.proofs.cluster_hash.Goals as goal

pub loop-i-init : goal.loop-i-init
loop-i-init c =
    let n = c.u32_at-count in
    (omega (arith, n.ensures.1), hash-all c.args.table.now c.args.at n.result _ _ n.ensures.0 (omega arith) (omega arith))

pub loop-i-preserved : goal.loop-i-preserved
loop-i-preserved c =
    let l = c.loop-i in
    (omega arith, hash-more c.args.table.now _ _ l.i l.hash c.pair_hash.result (omega arith) (c.pair_hash.ensures.0 ∙ ap pair_hash c.pair_at.ensures) ∙ l.invariant.1)

pub returns : goal.returns
returns c =
    let l = c.loop-i in
    (sym (hash-end c.args.table.now _ _ l.i l.hash (omega arith)) ∙ l.invariant.1, omega arith)
