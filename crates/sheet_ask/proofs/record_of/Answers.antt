-- `sheet_ask::record_of` meets its contract. The glyph has no cluster, or the one that it has is read. Assumes nothing.
use Rattle.sheet_ask.proofs.PoolLaws.{no_record_lem, the-record}
use Rattle.sheet_ask.proofs.record_of.Goals as goal

pub returns-in_err-at : goal.returns-in_err-at
returns-in_err-at c = λ m v w.
    let a = c.args in
    rw c.from_residual.ensures (no_record_lem a.bytes.now m v w a.direction a.glyph a.class c.in_err-at.ensures)

pub returns : goal.returns
returns c = λ m v w.
    let a = c.args in
    the-record a.bytes.now m v w a.direction a.glyph a.class c.in_ok-at.at c.in_ok-at.ensures c.record_in.result c.record_in.ensures
