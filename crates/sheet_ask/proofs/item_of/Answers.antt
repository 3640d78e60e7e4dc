-- `sheet_ask::item_of` meets its contract. The glyph has none, or the item with its number is found. Assumes nothing.
use Rattle.std.proofs.Common.{ℕ, subst, arith}
use Rattle.sheet_seek.specs.LookUp.{ValueIn}
use Rattle.sheet_ask.proofs.PoolLaws.{item-nowhere, item-stands}
use Rattle.sheet_ask.proofs.item_of.Goals as goal

pub returns-in_err-number : goal.returns-in_err-number
returns-in_err-number c =
    let a = c.args in
    let at = c.items_at-at in
    let k = c.u32_at in
    let p = c.item_place-runs in
    let f : ValueIn a.bytes.now p.result a.glyph c.value_of.result = subst (λ (g : ℕ). ValueIn a.bytes.now p.result g c.value_of.result) c.from.ensures c.value_of.ensures in
    rw c.from_residual.ensures
    (λ m v w. item-nowhere a.bytes.now (λ i. omega (arith, c.type_inv.bytes i)) m v w a.direction at.result a.sort at.ensures k.result p.result k.ensures.0 p.ensures
    a.glyph c.value_of.result f c.in_err-number.was)

pub returns : goal.returns
returns c = λ m v w.
    let a = c.args in
    let at = c.items_at-at in
    let k = c.u32_at in
    let p = c.item_place-runs in
    let f : ValueIn a.bytes.now p.result a.glyph c.value_of.result = subst (λ (g : ℕ). ValueIn a.bytes.now p.result g c.value_of.result) c.from.ensures c.value_of.ensures in
    item-stands a.bytes.now (λ i. omega (arith, c.type_inv.bytes i)) m v w a.direction at.result a.sort at.ensures k.result p.result k.ensures.0 p.ensures
    a.glyph c.value_of.result f c.in_ok-number.number c.item_place.result c.in_ok-number.was c.item_place.ensures
