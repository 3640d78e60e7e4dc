-- `sheet_check::read_side` meets its contract. What follows the machine is read after it. Assumes nothing.
use Rattle.sheet_check.proofs.SideLaws.{side-none, side-parse}
use Rattle.sheet_check.proofs.read_side.Goals as goal

pub returns-in_err-end : goal.returns-in_err-end
returns-in_err-end c =
    let a = c.args in
    rw c.from_residual.ensures (side-none a.glyphs c.requires a.bytes.now a.at c.in_err-end.ensures)

pub returns : goal.returns
returns c =
    let a = c.args in
    side-parse a.glyphs c.requires a.bytes.now a.at c.in_ok-end.end c.in_ok-end.ensures c.read_values.result c.read_values.ensures
