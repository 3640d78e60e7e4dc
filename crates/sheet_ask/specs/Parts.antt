-- What the calls for a part of a sheet's meaning answer (document 01, "The sheet": the reader hands back any one part of the meaning that is asked for;
-- where there is nothing, it says none). Each is about the meaning that the bytes are written for; a sheet has one.
use Rattle.std.specs.Prelude.{ℕ, ◌≡◌, List, Option, Result}
use Rattle.fields.specs.declared.Fault.{Fault}
use Rattle.types.specs.declared.Direction.{Direction}
use Rattle.types.specs.declared.Entry.{Entry}
use Rattle.types.specs.declared.Pair.{Pair}
use Rattle.types.specs.declared.HeldAction.{HeldAction}
use Rattle.meaning.specs.Meaning.{Meaning}
use Rattle.meaning.specs.Limits.{Valid}
use Rattle.meaning.specs.Sheet.{write}
use Rattle.meaning.specs.Ask.{Question, glyph_count, along, sizes, class, cell, width, action, ask}
use Rattle.answers.specs.declared.Sizes.{Sizes}
use Rattle.answers.specs.Says.{Reply, given, says_count, says_sizes, says_class, says_cell, says_record, says_action, room_of, room_after}

-- a reply to a question: the part of the meaning that the bytes are written for
abbrev pub Answers : List ℕ → Question → Reply → Type 0
Answers bytes q r = (m : Meaning) → Valid m → write m ≡ bytes → r ≡ given (ask m q)

abbrev pub CountOf : List ℕ → Result ℕ Fault → Type 0
CountOf bytes r = Answers bytes glyph_count (says_count r)

abbrev pub SizesOf : List ℕ → Direction → Result (Option Sizes) Fault → Type 0
SizesOf bytes d r = Answers bytes (along d sizes) (says_sizes r)

abbrev pub ClassOf : List ℕ → Direction → ℕ → Result (Option ℕ) Fault → Type 0
ClassOf bytes d glyph r = Answers bytes (along d (class glyph)) (says_class r)

abbrev pub CellOf : List ℕ → Direction → ℕ → ℕ → Result (Option Entry) Fault → Type 0
CellOf bytes d row c r = Answers bytes (along d (cell row c)) (says_cell r)

abbrev pub RecordOf : List ℕ → Direction → ℕ → ℕ → Result (Option Pair) Fault → Type 0
RecordOf bytes d glyph c r = Answers bytes (along d (width glyph c)) (says_record r)

-- the action's room holds the action and zeros after it, or zeros alone, whatever the bytes are
pub record ActionOf (bytes : List ℕ) (d : Direction) (glyph number : ℕ) (r : Result (Option HeldAction) Fault) : Type 0 where
  pub answer : Answers bytes (along d (action glyph number)) (says_action r)
  pub room : room_of r ≡ room_after (says_action r)
