-- `diff_glyphs::put_places` meets its contract.
use Rattle.diff_glyphs.proofs.Laws.{its-rising, its-clusters, its-lists}
use Rattle.diff_rule.proofs.Stored.{stores-other}
use native.Mathlib.Omega.{arith}
use Rattle.diff_glyphs.proofs.put_places.Goals as goal

pub put_records-requires : goal.put_records-requires
put_records-requires c =
    let a = c.args in
    let p = c.requires in
    let e = c.in-Clusters.is in
    (its-rising a.one.now a.places.first a.kind e p.2, its-rising a.other.now a.places.second a.kind e p.3, omega arith)

pub returns-in-Clusters : goal.returns-in-Clusters
returns-in-Clusters c =
    let a = c.args in
    let p = c.put_records in
    let e = its-clusters a.direction a.one.now a.other.now a.places a.kind c.in-Clusters.is in
    stores-other a.block.now p.new.list 0 p.result _ _ e p.ensures.0

pub returns-in-Lists : goal.returns-in-Lists
returns-in-Lists c =
    let a = c.args in
    let p = c.put_changed_list in
    let e = its-lists a.direction a.one.now a.other.now a.places a.kind c.in-Lists.is in
    stores-other a.block.now p.new.block 0 p.result _ _ e p.ensures
