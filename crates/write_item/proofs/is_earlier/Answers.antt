-- `write_item::is_earlier` meets its contract.
use mathlib.Core.Path.{sym, subst}
use Rattle.encoding.specs.Tests.{Says}
use Rattle.lookup_targets.specs.declared.Kind.{Kind}
use Rattle.write_item.specs.Items.{item_at, Earlier}
use Rattle.write_item.proofs.Earlier.{counts-tell, pairs-tell, actions-tell}
use Rattle.write_item.proofs.is_earlier.Goals as goal

pub returns-then-count-other : goal.returns-then-count-other
returns-then-count-other c =
    let a = c.args in
    counts-tell a.kind a.table.now a.first a.second _ _ c.u32_at-count.ensures.0 c.u32_at-other.ensures.0 c.if-count-other.true

pub returns-in-Clusters : goal.returns-in-Clusters
returns-in-Clusters c =
    let a = c.args in
    let t = a.table.now in
    let r = c.earlier_pairs.result in
    subst (λ (k : Kind). Says r (Earlier k (item_at k t a.first) (item_at k t a.second))) (sym c.in-Clusters.is)
    (pairs-tell t a.first a.second _ _ r c.u32_at-count.ensures.0 c.u32_at-other.ensures.0 c.if-count-other.false c.earlier_pairs.ensures)

pub returns-in-Lists : goal.returns-in-Lists
returns-in-Lists c =
    let a = c.args in
    let t = a.table.now in
    let r = c.earlier_actions.result in
    subst (λ (k : Kind). Says r (Earlier k (item_at k t a.first) (item_at k t a.second))) (sym c.in-Lists.is)
    (actions-tell t a.first a.second _ _ r c.u32_at-count.ensures.0 c.u32_at-other.ensures.0 c.if-count-other.false c.earlier_actions.ensures)
