-- `write_item::item_size` meets its contract.
use Rattle.write_item.specs.Items.{item_at, item_code}
use Rattle.lookup_targets.specs.declared.Kind.{Kind}
use lib.ListN.{length}
use native.Mathlib.Omega.{arith}
use mathlib.Core.Path.{◌≡◌, sym, subst}
use Prim.Native.Nat.{◌<◌, ◌^◌}
use Rattle.write_item.proofs.item_size.Goals as goal

pub returns-in-Clusters : goal.returns-in-Clusters
unfolding item_at item_code
returns-in-Clusters c =
    let a = c.args in
    subst (λ (k : Kind). (c.cluster_size.result ≡ length (item_code k (item_at k a.table.now a.at))) × (c.cluster_size.result < 2 ^ 52)) (sym c.in-Clusters.is)
    (omega (arith, c.cluster_size.ensures.0), omega (arith, c.cluster_size.ensures.1))

pub returns-in-Lists : goal.returns-in-Lists
unfolding item_at item_code
returns-in-Lists c =
    let a = c.args in
    subst (λ (k : Kind). (c.list_size.result ≡ length (item_code k (item_at k a.table.now a.at))) × (c.list_size.result < 2 ^ 52)) (sym c.in-Lists.is)
    c.list_size.ensures
