-- `write_item::put_item` meets its contract.
use mathlib.Core.Path.{ap, sym, ◌∙◌}
use lib.Seq.{sets}
use Rattle.fields.specs.Stores.{sets-out}
use Rattle.lookup_targets.specs.declared.Kind.{Kind}
use Rattle.write_item.specs.Items.{item_at, item_code}
use Rattle.write_item.proofs.put_item.Goals as goal

pub returns-then-out-to : goal.returns-then-out-to
returns-then-out-to c = sym (sets-out (item_code c.args.kind (item_at c.args.kind c.args.table.now c.args.at)) c.args.out.now c.args.to c.if-out-to.true)

pub returns-in-Clusters : goal.returns-in-Clusters
unfolding item_at item_code
returns-in-Clusters c =
    let a = c.args in
    c.put_cluster.ensures ∙ ap (λ (k : Kind). sets a.out.now a.to (item_code k (item_at k a.table.now a.at))) (sym c.in-Clusters.is)

pub returns-in-Lists : goal.returns-in-Lists
unfolding item_at item_code
returns-in-Lists c =
    let a = c.args in
    c.put_list.ensures ∙ ap (λ (k : Kind). sets a.out.now a.to (item_code k (item_at k a.table.now a.at))) (sym c.in-Lists.is)
