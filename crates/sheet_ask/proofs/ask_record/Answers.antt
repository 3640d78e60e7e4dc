-- `sheet_ask::ask_record` meets its contract. The check is asked first. Assumes nothing.
use Rattle.std.proofs.Common.{◌≡◌, Err, rules}
use Rattle.meaning.specs.Ask.{along, width}
use Rattle.sheet_ask.proofs.ReplyLaws.{reply-refused}
use Rattle.sheet_ask.proofs.ask_record.Goals as goal

pub returns-in_err-check_sheet : goal.returns-in_err-check_sheet
returns-in_err-check_sheet c =
    let a = c.args in
    let f = c.in_err-check_sheet.field-0.0 in
    let e : c.from_residual.result ≡ Err f = search rules in
    rw e (reply-refused a.bytes.now (along a.direction (width a.glyph a.class)) f c.in_err-check_sheet.ensures)
