-- `line_verdicts::VerdictCursor::next_verdict` meets its contract.
use Rattle.std.proofs.Common.{◌∙◌}
use Rattle.line_verdicts.proofs.Told.{left-taken, serves-taken}
use Rattle.line_verdicts.proofs.VerdictCursor.next_verdict.Goals as goal

pub returns : goal.returns
returns c =
    let bits = c.args.bits.now in
    let at = c.find_glyph.new.self in
    let h = c.find_glyph.ensures in
    let v = c.first_action.result in
    let past = c.first_action.new.self in
    (h.0 ∙ left-taken bits at v past c.first_action.ensures, serves-taken bits at v past h.1 h.2 c.first_action.ensures)
