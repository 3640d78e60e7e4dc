-- What the calls for a sheet say in C: of a sheet the part of the meaning that it is written for, of any other bytes the number 17 and the offset 0.
use Rattle.std.specs.Prelude.{ℕ, ◌≡◌, List}
use Rattle.meaning.specs.Ask.{Question}
use Rattle.answers.specs.Says.{Judgement, Reply}
use Rattle.sheet_check.specs.Check.{SheetChecked}
use Rattle.sheet_ask.specs.Calls.{SheetReply}
use Rattle.just_c.specs.declared.JustChecked.{JustChecked}
use Rattle.just_c.specs.InC.{checked_in}

-- what the check says, in its struct: 0 and 0 where the bytes are a sheet, 17 and 0 where they are not
pub record SheetNumber (bytes : List ℕ) (r : JustChecked) : Type 0 where
  pub said : Judgement
  pub holds : SheetChecked bytes said
  pub struct : r ≡ checked_in said

-- a reply to a question about the bytes, in its struct of C layout
pub record Given {A : Type 0} (bytes : List ℕ) (q : Question) (out : Reply → A) (r : A) : Type 0 where
  pub reply : Reply
  pub holds : SheetReply bytes q reply
  pub struct : r ≡ out reply
