-- `sheet_machine::read_within` meets its contract: the cells read after the classes. Assumes nothing.
use Rattle.sheet_machine.proofs.MachineLaws.{within_none, within-parse}
use Rattle.sheet_machine.proofs.read_within.Goals as goal

pub returns-in_err-end : goal.returns-in_err-end
returns-in_err-end c =
    let a = c.args in
    rw c.from_residual.ensures
    (within_none a.glyphs a.grid.rows a.grid.classes c.requires a.grid.within.few-classes a.bytes.now a.at c.in_err-end.ensures)

pub returns : goal.returns
returns c =
    let a = c.args in
    within-parse a.glyphs a.grid.rows a.grid.classes c.requires a.grid.within.few-classes a.bytes.now a.at c.in_ok-end.end c.in_ok-end.ensures
    c.read_least_cells.result c.read_least_cells.ensures
