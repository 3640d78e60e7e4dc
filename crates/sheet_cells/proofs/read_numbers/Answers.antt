-- `sheet_cells::read_numbers` meets its contract: bytes that are there, are as many as asked for and come in order are the section's; whatever else stands there is no section. Assumes nothing.
use Rattle.std.proofs.Common.{◌+◌, ◌-◌, arith}
use Rattle.sheet_cells.proofs.CellLaws.{numbers-outside, numbers-other, numbers-wrong, numbers-good}
use Rattle.sheet_cells.proofs.read_numbers.Goals as goal

pub returns-in_err-count_at : goal.returns-in_err-count_at
returns-in_err-count_at c =
    let a = c.args in
    rw c.from_residual.ensures
    (numbers-outside a.total a.count c.requires a.bytes.now (λ i. omega (arith, c.type_inv.bytes i)) a.at c.in_err-count_at.ensures)

pub returns-then-branch-total : goal.returns-then-branch-total
returns-then-branch-total c =
    let a = c.args in
    numbers-other a.total a.count c.requires a.bytes.now (λ i. omega (arith, c.type_inv.bytes i)) a.at c.in_ok-count_at.field-0 c.in_ok-count_at.ensures c.if-branch-total.true

pub returns-then-not-in_order : goal.returns-then-not-in_order
returns-then-not-in_order c =
    let a = c.args in
    numbers-wrong a.total a.count c.requires a.bytes.now (λ i. omega (arith, c.type_inv.bytes i)) a.at c.in_ok-count_at.field-0 c.in_ok-count_at.ensures
    c.if-branch-total.false (a.at + 4 + a.total - (a.at + 4)) (omega arith) c.if-not-in_order.ensures

pub returns : goal.returns
returns c =
    let a = c.args in
    numbers-good a.total a.count c.requires a.bytes.now (λ i. omega (arith, c.type_inv.bytes i)) a.at c.in_ok-count_at.field-0 c.in_ok-count_at.ensures
    c.if-branch-total.false (a.at + 4 + a.total - (a.at + 4)) (omega arith) c.if-not-in_order.ensures
