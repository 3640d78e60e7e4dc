-- `sheet_cells::read_cells` meets its contract: section 4 read after section 3, whose count says how many numbers there are. Assumes nothing.
use Rattle.std.proofs.Common.{ℕ, subst, arith}
use Rattle.encoding.specs.Sections.{byte}
use Rattle.encoding.specs.Codes.{counted}
use Rattle.sheet_sections.specs.Section.{Parses}
use Rattle.sheet_cells.specs.Cells.{OkNumbers}
use Rattle.sheet_cells.proofs.CellLaws.{cells-none, cells-parse}
use Rattle.sheet_cells.proofs.read_cells.Goals as goal

pub returns-in_err-end : goal.returns-in_err-end
returns-in_err-end c =
    let a = c.args in
    rw c.from_residual.ensures
    (cells-none a.rows c.requires.0 a.bytes.now (λ i. omega (arith, c.type_inv.bytes i)) a.at a.total c.in_err-end.ensures)

pub returns : goal.returns
returns c =
    let a = c.args in
    cells-parse a.rows c.requires.0 a.bytes.now (λ i. omega (arith, c.type_inv.bytes i)) a.at a.total c.in_ok-end.end c.in_ok-end.ensures c.read_numbers.result
    (subst (λ (m : ℕ). Parses (counted byte) (OkNumbers a.total m) a.bytes.now c.in_ok-end.end c.read_numbers.result) c.u32_at.ensures.0 c.read_numbers.ensures)
