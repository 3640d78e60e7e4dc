-- `write_item::item_hash` meets its contract.
use mathlib.Core.Path.{ap, sym, ◌∙◌}
use Rattle.lookup_targets.specs.declared.Kind.{Kind}
use Rattle.write_item.specs.Items.{item_at, item_hash}
use Rattle.write_item.proofs.item_hash.Goals as goal

pub returns-in-Clusters : goal.returns-in-Clusters
unfolding item_at item_hash
returns-in-Clusters c = (c.cluster_hash.ensures.0 ∙ ap (λ (k : Kind). item_hash k (item_at k c.args.table.now c.args.at)) (sym c.in-Clusters.is), c.cluster_hash.ensures.1)

pub returns-in-Lists : goal.returns-in-Lists
unfolding item_at item_hash
returns-in-Lists c = (c.list_hash.ensures.0 ∙ ap (λ (k : Kind). item_hash k (item_at k c.args.table.now c.args.at)) (sym c.in-Lists.is), c.list_hash.ensures.1)
