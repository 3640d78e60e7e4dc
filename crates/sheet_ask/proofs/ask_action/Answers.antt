-- `sheet_ask::ask_action` meets its contract. The check is asked first. Assumes nothing.
use Rattle.std.proofs.Common.{◌≡◌, Err, rules}
use Rattle.sheet_ask.proofs.ReplyLaws.{action-refused}
use Rattle.sheet_ask.proofs.ask_action.Goals as goal

pub returns-in_err-check_sheet : goal.returns-in_err-check_sheet
returns-in_err-check_sheet c =
    let a = c.args in
    let f = c.in_err-check_sheet.field-0.0 in
    let e : c.from_residual.result ≡ Err f = search rules in
    rw e (action-refused a.bytes.now a.direction a.glyph a.number f c.in_err-check_sheet.ensures)
