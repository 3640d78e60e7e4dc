-- `write_item::same_item` meets its contract.
use Rattle.write_item.specs.Items.{item_at}
use Rattle.lookup_targets.specs.declared.Kind.{Kind}
use Rattle.encoding.specs.Tests.{Says}
use mathlib.Core.Path.{◌≡◌, sym, subst}
use Rattle.write_item.proofs.same_item.Goals as goal

pub returns-in-Clusters : goal.returns-in-Clusters
unfolding item_at
returns-in-Clusters c =
    let a = c.args in
    subst (λ (k : Kind). Says c.same_cluster.result (item_at k a.table.now a.first ≡ item_at k a.table.now a.second)) (sym c.in-Clusters.is)
    c.same_cluster.ensures

pub returns-in-Lists : goal.returns-in-Lists
unfolding item_at
returns-in-Lists c =
    let a = c.args in
    subst (λ (k : Kind). Says c.same_list.result (item_at k a.table.now a.first ≡ item_at k a.table.now a.second)) (sym c.in-Lists.is)
    c.same_list.ensures
