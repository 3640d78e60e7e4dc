-- `actions::actions_are_clear` meets its contract.
use Rattle.std.proofs.Common.{arith}
use Rattle.actions.proofs.Notes.{both-passing, fewer-clear}
use Rattle.actions.proofs.actions_are_clear.Goals as goal

pub returns-then-list-lt8 : goal.returns-then-list-lt8
returns-then-list-lt8 c = (λ e. grind (arith, fewer-clear), c.step_through-list.ensures.1)

pub returns : goal.returns
returns c = (
  λ e. grind (arith, fewer-clear),
  both-passing c.step_through-list.ensures.1 (both-passing c.step_through-ahead.ensures.1 c.note_ahead.ensures),
)
