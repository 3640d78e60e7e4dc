-- `sheet_list::read_action` meets its contract: an action that is there and good; whatever else stands there is none. Assumes nothing.
use Rattle.std.proofs.Common.{arith}
use Rattle.sheet_list.proofs.ActionLaws.{action-short, action-bad, action-good}
use Rattle.sheet_list.proofs.read_action.Goals as goal

pub returns-then-not-has_room : goal.returns-then-not-has_room
returns-then-not-has_room c =
    let a = c.args in
    action-short a.glyphs a.bytes.now (λ i. omega (arith, c.type_inv.bytes i)) a.at c.if-not-has_room.ensures

pub returns-then-not-good_action : goal.returns-then-not-good_action
returns-then-not-good_action c =
    let a = c.args in
    action-bad a.glyphs a.bytes.now (λ i. omega (arith, c.type_inv.bytes i)) a.at c.u32_at-size.result c.u32_at-size.ensures.0 c.if-not-good_action.ensures

pub returns : goal.returns
returns c =
    let a = c.args in
    action-good a.glyphs a.bytes.now (λ i. omega (arith, c.type_inv.bytes i)) a.at c.u32_at-size.result c.u32_at-size.ensures.0 c.if-not-good_action.ensures
