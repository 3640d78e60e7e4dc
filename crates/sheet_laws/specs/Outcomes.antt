-- The outcomes of all the calls for a sheet's parts, and what is known of them: no more than the calls promise.
use Rattle.std.specs.Prelude.{ℕ, ◌<◌, ◌^◌, ◌≡◌, List, Option, Result}
use Rattle.fields.specs.declared.Fault.{Fault}
use Rattle.types.specs.declared.Entry.{Entry}
use Rattle.types.specs.declared.Pair.{Pair}
use Rattle.types.specs.declared.HeldAction.{HeldAction}
use Rattle.types.specs.declared.Direction.{Direction}
use Rattle.meaning.specs.Ask.{sizes, class, cell, width, action, Question, glyph_count, along}
use Rattle.meaning.specs.Same.{Asked}
use Rattle.answers.specs.declared.Sizes.{Sizes}
use Rattle.answers.specs.Says.{Reply, says_count, says_sizes, says_class, says_cell, says_record, says_action}
use Rattle.sheet_ask.specs.Parts.{CountOf, SizesOf, ClassOf, CellOf, RecordOf, ActionOf}
use Rattle.sheet_ask.specs.Calls.{SheetReply, ActionReply}

-- an outcome of each call, for whatever it is asked
pub record Outcomes : Type 0 where
  pub counted : Result ℕ Fault
  pub sized : Direction → Result (Option Sizes) Fault
  pub classed : Direction → ℕ → Result (Option ℕ) Fault
  pub celled : Direction → ℕ → ℕ → Result (Option Entry) Fault
  pub recorded : Direction → ℕ → ℕ → Result (Option Pair) Fault
  pub acted : Direction → ℕ → ℕ → Result (Option HeldAction) Fault

-- they are outcomes for these bytes, of the calls that do not judge them: glyphs, rows, classes of the machine and numbers of actions are 16-bit, a
-- record's class is 8-bit
pub record Parts (bytes : List ℕ) (o : Outcomes) : Type 0 where
  pub count : CountOf bytes o.counted
  pub sizes : (d : Direction) → SizesOf bytes d (o.sized d)
  pub class : (d : Direction) (g : ℕ) → g < 2 ^ 16 → ClassOf bytes d g (o.classed d g)
  pub cell : (d : Direction) (r c : ℕ) → r < 2 ^ 16 → c < 2 ^ 16 → CellOf bytes d r c (o.celled d r c)
  pub width : (d : Direction) (g c : ℕ) → g < 2 ^ 16 → c < 2 ^ 8 → RecordOf bytes d g c (o.recorded d g c)
  pub action : (d : Direction) (g k : ℕ) → g < 2 ^ 16 → k < 2 ^ 16 → ActionOf bytes d g k (o.acted d g k)

-- what an outcome says of its question
abbrev pub reply_to : Outcomes → Question → Reply
reply_to o glyph_count = says_count o.counted
reply_to o (along d sizes) = says_sizes (o.sized d)
reply_to o (along d (class g)) = says_class (o.classed d g)
reply_to o (along d (cell r c)) = says_cell (o.celled d r c)
reply_to o (along d (width g c)) = says_record (o.recorded d g c)
reply_to o (along d (action g k)) = says_action (o.acted d g k)

-- they are outcomes for these bytes, of the calls that judge them first
pub record Calls (bytes : List ℕ) (o : Outcomes) : Type 0 where
  pub replies : (q : Question) → Asked q → SheetReply bytes q (reply_to o q)
  pub actions : (d : Direction) (g k : ℕ) → g < 2 ^ 16 → k < 2 ^ 16 → ActionReply bytes d g k (o.acted d g k)

-- the same answers to every question that a call can be asked
abbrev pub Alike : Outcomes → Outcomes → Type 0
Alike o o' = (q : Question) → Asked q → reply_to o q ≡ reply_to o' q
