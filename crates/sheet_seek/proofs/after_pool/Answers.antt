-- `sheet_seek::after_pool` meets its contract. The runs are passed after the items. Assumes nothing.
use Rattle.sheet_seek.proofs.SideLaws.{pool-passed}
use Rattle.sheet_seek.proofs.PassLaws.{reach-end}
use Rattle.sheet_items.specs.Items.{item_code, FewItem}
use Rattle.fields.specs.Field.{Bytes}
use native.Mathlib.Omega.{arith}
use Rattle.sheet_seek.proofs.after_pool.Goals as goal

pub returns : goal.returns
returns c =
    let a = c.args in
    let s = a.bytes.now in
    let bytes : Bytes s = λ i. omega (arith, c.type_inv.bytes i) in
    pool-passed s bytes a.at c.item_place-runs.result c.after_items.result a.sort
    (reach-end (item_code a.sort) (FewItem a.sort) s bytes a.at c.u32_at.result c.item_place-runs.result c.u32_at.ensures.0 c.item_place-runs.ensures)
    c.after_items.ensures
