-- What the calls that judge the bytes first answer (document 01, "The sheet" and "Numbers of refusal", 17): of a sheet, the part of the meaning that it
-- is written for; of any other bytes the number 17, with offset 0 (document 02, 4/14). Bytes are a sheet or not, and a sheet has one meaning, so the reply is settled.
use Rattle.std.specs.Prelude.{ℕ, ◌≡◌, List, Option, Result}
use Rattle.fields.specs.declared.Fault.{Fault}
use Rattle.types.specs.declared.Direction.{Direction}
use Rattle.types.specs.declared.HeldAction.{HeldAction}
use Rattle.meaning.specs.Sheet.{IsSheet}
use Rattle.meaning.specs.Ask.{Question, along, action}
use Rattle.answers.specs.Says.{Reply, refused, says_action, room_of, room_after}
use Rattle.sheet_ask.specs.Parts.{Answers}

pub record SheetReply (bytes : List ℕ) (q : Question) (r : Reply) : Type 0 where
  pub answer : Answers bytes q r
  pub refusal : (IsSheet bytes → ⊥) → r ≡ refused 17 0

-- with an action, what its room holds
pub record ActionReply (bytes : List ℕ) (d : Direction) (glyph number : ℕ) (r : Result (Option HeldAction) Fault) : Type 0 where
  pub reply : SheetReply bytes (along d (action glyph number)) (says_action r)
  pub room : room_of r ≡ room_after (says_action r)
