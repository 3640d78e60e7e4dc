-- `sheet_seek::after_item` meets its contract. Pairs are all of one width; actions are passed one by one. Assumes nothing.
use mathlib.Core.Path.{refl, sym, subst}
use mathlib.Core.List.{[]}
use native.Mathlib.Omega.{arith}
use Rattle.fields.specs.Field.{Bytes}
use Rattle.meaning.specs.Sheet.{pair_code, action_code}
use Rattle.meaning.specs.Wide.{WidePair, WideAction}
use Rattle.sheet_items.specs.declared.Sort.{Sort}
use Rattle.sheet_items.specs.Items.{item_code, FewItem}
use Rattle.sheet_seek.specs.Passes.{Passes}
use Rattle.sheet_seek.proofs.PassLaws.{reach-end, items-end}
use Rattle.sheet_seek.proofs.after_item.Goals as goal

pub returns-in-Clusters : goal.returns-in-Clusters
returns-in-Clusters c =
    let a = c.args in
    let s = a.bytes.now in
    let bytes : Bytes s = λ i. omega (arith, c.type_inv.bytes i) in
    subst (λ (k : Sort). Passes (item_code k) (λ x. []) (FewItem k) s a.at c.after_items.result) (sym c.in-Clusters.is)
    (λ x rest o e. items-end pair_code WidePair s bytes a.at 24 (λ p. refl) c.after_items.result c.after_items.ensures x rest o.0 e)

pub returns-in-Lists : goal.returns-in-Lists
returns-in-Lists c =
    let a = c.args in
    let s = a.bytes.now in
    let bytes : Bytes s = λ i. omega (arith, c.type_inv.bytes i) in
    subst (λ (k : Sort). Passes (item_code k) (λ x. []) (FewItem k) s a.at c.action_place.result) (sym c.in-Lists.is)
    (reach-end action_code WideAction s bytes a.at c.u32_at.result c.action_place.result c.u32_at.ensures.0 c.action_place.ensures)
