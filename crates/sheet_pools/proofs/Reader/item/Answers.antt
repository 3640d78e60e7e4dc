-- `sheet_pools::Reader::item` meets its contract. Each sort has its reader. Assumes nothing.
use Rattle.std.proofs.Common.{sym, subst}
use Rattle.sheet_sections.specs.Section.{Parses}
use Rattle.sheet_items.specs.declared.Sort.{Sort}
use Rattle.sheet_items.specs.Items.{item_code, SomeItem}
use Rattle.sheet_pools.proofs.Reader.item.Goals as goal

pub returns-in-Clusters : goal.returns-in-Clusters
returns-in-Clusters c =
    let x = c.args.self.now in
    subst (λ (k : Sort). Parses (item_code k) (SomeItem k x.glyphs) x.bytes.now c.args.at c.read_cluster.result) (sym c.in-Clusters.is) c.read_cluster.ensures

pub returns-in-Lists : goal.returns-in-Lists
returns-in-Lists c =
    let x = c.args.self.now in
    subst (λ (k : Sort). Parses (item_code k) (SomeItem k x.glyphs) x.bytes.now c.args.at c.read_list.result) (sym c.in-Lists.is) c.read_list.ensures
