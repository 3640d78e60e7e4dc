-- `sheet_check::read_sides` meets its contract. Vertical is read after horizontal. Assumes nothing.
use Rattle.sheet_check.proofs.WholeLaws.{sides-none, sides-parse}
use Rattle.sheet_check.proofs.read_sides.Goals as goal

pub returns-in_err-end : goal.returns-in_err-end
returns-in_err-end c =
    let a = c.args in
    rw c.from_residual.ensures (sides-none a.glyphs c.requires a.bytes.now a.at c.in_err-end.ensures)

pub returns : goal.returns
returns c =
    let a = c.args in
    sides-parse a.glyphs c.requires a.bytes.now a.at c.in_ok-end.end c.in_ok-end.ensures c.read_side-2.result c.read_side-2.ensures
