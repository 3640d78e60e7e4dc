-- `sheet_machine::read_least_cells` meets its contract: of the cells that stand there, S is the least or not. Assumes nothing.
use Rattle.std.proofs.Common.{ℕ, subst}
use Rattle.encoding.specs.Codes.{Found, Absent}
use Rattle.encoding.specs.Sections.{numbered}
use Rattle.meaning.specs.Discrete.{Entry-discrete}
use Rattle.meaning.specs.Sheet.{entry_code}
use Rattle.sheet_cells.specs.Cells.{OkCells}
use Rattle.sheet_machine.proofs.StandLaws.{least-none, least-found, least-absent}
use Rattle.sheet_machine.proofs.read_least_cells.Goals as goal

pub returns-in_err-end : goal.returns-in_err-end
returns-in_err-end c =
    let a = c.args in
    let g = a.grid in
    rw c.from_residual.ensures
    (least-none g.rows g.classes a.bytes.now a.at
    (subst (λ (n : ℕ). Absent (numbered Entry-discrete entry_code) (OkCells g.rows n) a.bytes.now a.at) c.cells.ensures.0 c.in_err-end.ensures))

pub least_cells-requires : goal.least_cells-requires
least_cells-requires c =
    let a = c.args in
    let g = a.grid in
    (c.in_ok-end.end, subst (λ (n : ℕ). Found (numbered Entry-discrete entry_code) (OkCells g.rows n) a.bytes.now a.at c.in_ok-end.end) c.cells.ensures.0 c.in_ok-end.ensures)

pub returns-then-not-least_cells : goal.returns-then-not-least_cells
returns-then-not-least_cells c = least-absent c.args.grid.rows c.args.grid.classes c.args.bytes.now c.args.at c.if-not-least_cells.ensures

pub returns : goal.returns
returns c =
    let a = c.args in
    let g = a.grid in
    least-found g.rows g.classes a.bytes.now a.at c.in_ok-end.end
    (subst (λ (n : ℕ). Found (numbered Entry-discrete entry_code) (OkCells g.rows n) a.bytes.now a.at c.in_ok-end.end) c.cells.ensures.0 c.in_ok-end.ensures)
    c.if-not-least_cells.ensures
