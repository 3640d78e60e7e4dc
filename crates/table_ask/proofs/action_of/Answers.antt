use Rattle.std.proofs.Common.{ap, ◌∙◌, arith}
use Rattle.meaning.specs.Meaning.{Action}
use Rattle.meaning.specs.Ask.{Answer, act}
use Rattle.answers.specs.Says.{given, room_for}
use Rattle.answers.proofs.Laws.{held-is}
use Rattle.table_ask.specs.Places.{cut}
use Rattle.table_ask.proofs.Asked.{action-here}
use Rattle.table_ask.proofs.action_of.Goals as goal

pub returns-in_err-at : goal.returns-in_err-at
returns-in_err-at c =
    let e = action-here _ _ _ _ _ _ c.in_err-at.ensures.0 in
    let reply = ap (λ (a : Answer). given (cut a)) e in
    let room = ap (λ (a : Answer). room_for (cut a)) e in
    (grind arith, grind arith)

pub returns : goal.returns
returns c =
    let e = action-here _ _ _ _ _ _ c.in_ok-at.ensures.0 in
    (ap (λ (a : Action). given (act a)) (held-is _ c.action_at.ensures) ∙ ap (λ (a : Answer). given (cut a)) e, c.action_at.ensures ∙ ap (λ (a : Answer). room_for (cut a)) e)
