-- `sheet_ask::cell_in` meets its contract. The cell's number and its entry stand inside, or no cells stand there. Assumes nothing.
use Rattle.std.proofs.Common.{◌+◌, ◌*◌, arith}
use Rattle.sheet_ask.proofs.MachineLaws.{cells-room, cell-fits, entry-fits, cell-is}
use Rattle.sheet_ask.proofs.cell_in.Goals as goal

pub returns-in_err-count : goal.returns-in_err-count
returns-in_err-count c = λ rows classes cells rest z o e h.
    let a = c.args in
    absurd (c.in_err-count.ensures (cells-room a.bytes.now (λ i. omega (arith, c.type_inv.bytes i)) a.at a.cell rows classes cells rest z o e h))

pub returns-then-not-has_room : goal.returns-then-not-has_room
returns-then-not-has_room c = λ rows classes cells rest z o e h.
    let a = c.args in
    let f = cell-fits a.bytes.now (λ i. omega (arith, c.type_inv.bytes i)) a.at a.cell rows classes cells rest z o e h in
    absurd (c.if-not-has_room.ensures (omega (arith, f, c.in_ok-count.ensures.1)))

pub returns-then-not-has_room-2 : goal.returns-then-not-has_room-2
returns-then-not-has_room-2 c = λ rows classes cells rest z o e h.
    let a = c.args in
    let f = entry-fits a.bytes.now (λ i. omega (arith, c.type_inv.bytes i)) a.at a.cell rows classes cells rest z o e h (a.at + 4 + 4 * c.in_ok-count.count + 4 + a.cell) (omega (arith, c.in_ok-count.ensures.1)) in
    absurd (c.if-not-has_room-2.ensures (omega (arith, f, c.u8_at-number.ensures.0)))

pub returns : goal.returns
returns c = λ rows classes cells rest z o e h.
    let a = c.args in
    cell-is a.bytes.now (λ i. omega (arith, c.type_inv.bytes i)) a.at a.cell rows classes cells rest z o e h _ c.u8_at-number.result c.entry_at.result
    (omega (arith, c.in_ok-count.ensures.1)) c.u8_at-number.ensures.0 c.entry_at.ensures
