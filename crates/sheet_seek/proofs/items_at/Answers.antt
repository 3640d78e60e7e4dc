-- `sheet_seek::items_at` meets its contract. The machine is passed, and for lists the clusters. Assumes nothing.
use Rattle.sheet_seek.proofs.SideLaws.{machine-passed, to-lists}
use Rattle.sheet_seek.specs.Passes.{Passes, items_on}
use Rattle.sheet_items.specs.declared.Sort.{Sort}
use Rattle.meaning.specs.Sheet.{write}
use Rattle.meaning.specs.Limits.{Valid}
use Rattle.fields.specs.Field.{Bytes}
use mathlib.Core.Path.{sym, subst}
use native.Mathlib.Omega.{arith}
use Rattle.sheet_seek.proofs.items_at.Goals as goal

pub returns-in-Clusters : goal.returns-in-Clusters
returns-in-Clusters c =
    let a = c.args in
    let s = a.bytes.now in
    let bytes : Bytes s = λ i. omega (arith, c.type_inv.bytes i) in
    let p = c.after_machine-clusters in
    subst (λ (k : Sort). Passes write (items_on k a.direction) Valid s 0 p.result) (sym c.in-Clusters.is)
    (machine-passed s bytes a.direction c.side_at.result c.side_at.ensures p.result p.ensures)

pub returns-in-Lists : goal.returns-in-Lists
returns-in-Lists c =
    let a = c.args in
    let s = a.bytes.now in
    let bytes : Bytes s = λ i. omega (arith, c.type_inv.bytes i) in
    let p = c.after_machine-clusters in
    let clusters = machine-passed s bytes a.direction c.side_at.result c.side_at.ensures p.result p.ensures in
    subst (λ (k : Sort). Passes write (items_on k a.direction) Valid s 0 c.after_pool.result) (sym c.in-Lists.is)
    (to-lists s bytes a.direction p.result clusters c.after_pool.result c.after_pool.ensures)
