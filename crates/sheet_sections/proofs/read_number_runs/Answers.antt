-- `sheet_sections::read_number_runs` meets its contract: the runs are there and in order, or no such section stands there. Assumes nothing.
use Rattle.std.proofs.Common.{arith}
use Rattle.sheet_sections.proofs.NumberLaws.{numbers-outside, numbers-good, numbers-bad}
use Rattle.sheet_sections.proofs.read_number_runs.Goals as goal

pub returns-in_err-count : goal.returns-in_err-count
returns-in_err-count c =
    let a = c.args in
    let q = c.requires in
    rw c.from_residual.ensures
    (numbers-outside a.glyphs a.items q.0 q.1 a.bytes.now (λ i. omega (arith, c.type_inv.bytes i)) a.at c.in_err-count.ensures)

pub returns-then-not-good_numbers : goal.returns-then-not-good_numbers
returns-then-not-good_numbers c =
    let a = c.args in
    let q = c.requires in
    numbers-bad a.glyphs a.items q.0 q.1 a.bytes.now (λ i. omega (arith, c.type_inv.bytes i)) a.at c.in_ok-count.count c.in_ok-count.ensures c.if-not-good_numbers.ensures

pub returns : goal.returns
returns c =
    let a = c.args in
    let q = c.requires in
    numbers-good a.glyphs a.items q.0 q.1 a.bytes.now (λ i. omega (arith, c.type_inv.bytes i)) a.at c.in_ok-count.count c.in_ok-count.ensures c.if-not-good_numbers.ensures
