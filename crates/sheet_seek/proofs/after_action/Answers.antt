-- `sheet_seek::after_action` meets its contract. Class and type are passed, then a section of bytes. Assumes nothing.
use Rattle.std.proofs.Common.{length, arith}
use Rattle.sheet_seek.proofs.PassLaws.{action-none, action-end}
use Rattle.sheet_seek.proofs.after_action.Goals as goal

pub returns-then-not-has_room : goal.returns-then-not-has_room
returns-then-not-has_room c =
    let s = c.args.bytes.now in
    action-none s (λ i. omega (arith, c.type_inv.bytes i)) c.args.at (length s) c.if-not-has_room.ensures

pub returns : goal.returns
returns c = action-end c.args.bytes.now (λ i. omega (arith, c.type_inv.bytes i)) c.args.at c.after_items.result c.after_items.ensures
