-- `sheet_seek::item_place` meets its contract: each step of the walk passes one item. Assumes nothing.
use Rattle.std.proofs.Common.{arith, rules}
use Rattle.sheet_items.specs.Items.{item_code, FewItem}
use Rattle.sheet_items.proofs.Laws.{item-long}
use Rattle.sheet_seek.proofs.PassLaws.{walked}
use Rattle.sheet_seek.proofs.item_place.Goals as goal

pub returns : goal.returns
returns c =
    let a = c.args in
    walked (item_code a.sort) (FewItem a.sort) a.bytes.now (λ i. omega (arith, c.type_inv.bytes i)) a.at _ (λ p q h. search rules) (item-long a.sort)
    a.number c.reach.result c.reach.ensures
