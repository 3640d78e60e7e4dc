-- `sheet_cells::read_entries` meets its contract: entries that are there and good are the section's; whatever else stands there is no section. Assumes nothing.
use Rattle.std.proofs.Common.{arith}
use Rattle.sheet_cells.proofs.CellLaws.{entries-outside, entries-many, entries-good, entries-bad}
use Rattle.sheet_cells.proofs.read_entries.Goals as goal

pub returns-in_err-count : goal.returns-in_err-count
returns-in_err-count c =
    let a = c.args in
    rw c.from_residual.ensures
    (entries-outside a.rows c.requires a.bytes.now (λ i. omega (arith, c.type_inv.bytes i)) a.at c.in_err-count.ensures)

pub returns-then-count-gt256 : goal.returns-then-count-gt256
returns-then-count-gt256 c =
    let a = c.args in
    entries-many a.rows c.requires a.bytes.now (λ i. omega (arith, c.type_inv.bytes i)) a.at c.in_ok-count.count c.in_ok-count.ensures (omega arith)

pub returns-then-not-good_entries : goal.returns-then-not-good_entries
returns-then-not-good_entries c =
    let a = c.args in
    entries-bad a.rows c.requires a.bytes.now (λ i. omega (arith, c.type_inv.bytes i)) a.at c.in_ok-count.count c.in_ok-count.ensures c.if-not-good_entries.ensures

pub returns : goal.returns
returns c =
    let a = c.args in
    entries-good a.rows c.requires a.bytes.now (λ i. omega (arith, c.type_inv.bytes i)) a.at c.in_ok-count.count c.in_ok-count.ensures c.if-not-good_entries.ensures
