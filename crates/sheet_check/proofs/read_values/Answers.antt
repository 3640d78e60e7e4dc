-- `sheet_check::read_values` meets its contract. The lists are read after the clusters. Assumes nothing.
use Rattle.sheet_check.proofs.SideLaws.{values-none, values-parse}
use Rattle.sheet_check.proofs.read_values.Goals as goal

pub returns-in_err-end : goal.returns-in_err-end
returns-in_err-end c =
    let a = c.args in
    rw c.from_residual.ensures (values-none a.glyphs c.requires a.bytes.now a.at c.in_err-end.ensures)

pub returns : goal.returns
returns c =
    let a = c.args in
    values-parse a.glyphs c.requires a.bytes.now a.at c.in_ok-end.end c.in_ok-end.ensures c.read_pool-2.result c.read_pool-2.ensures
