-- Demand 3: what the sheets of tables and the answers for sheets have to do with what tables mean. It speaks of any outcomes of the calls: of `write_sheet`
-- and `sheet_length` (`Writing`), of `check_sheet` (`SheetChecked`) and of the calls for a sheet's parts (`Outcomes`), and uses nothing but their promises.
use Rattle.std.specs.Prelude.{Result, Ok}
use Rattle.fields.specs.declared.Fault.{Fault}
use Rattle.std.specs.Prelude.{ℕ, ◌≤◌, ◌≡◌, List, length}
use Rattle.fields.specs.Field.{Bytes}
use Rattle.meaning.specs.Meaning.{Meaning}
use Rattle.meaning.specs.Limits.{Valid}
use Rattle.meaning.specs.Sheet.{write}
use Rattle.meaning.specs.Ask.{Question, ask}
use Rattle.meaning.specs.Same.{Asked, Same}
use Rattle.answers.specs.Says.{Judgement, accepted, given, unless_bad}
use Rattle.table.specs.Table.{table_fault, Accepted}
use Rattle.table.specs.Means.{meaning_of}
use Rattle.sheet_check.specs.Check.{SheetChecked}
use Rattle.sheet_laws.specs.Outcomes.{Outcomes, Parts, Calls, reply_to, Alike}
use Rattle.sheet_laws.specs.Writing.{LengthAnswered, Wrote, SheetBy}

-- s is a sheet: some outcome of the check accepts it
abbrev pub Sheet : List ℕ → Type 0
Sheet s = SheetChecked s accepted

pub record Demand3 : Type 0 where
  -- each accepted table has a sheet: lent room enough, the writer writes one
  pub some-sheet : (t : List ℕ) (n : ℕ) → Accepted t n → (s : List ℕ) × SheetBy t n s
  -- and one alone, whatever the lent room held before
  pub one-sheet : (t s s' : List ℕ) (n : ℕ) → Accepted t n → SheetBy t n s → SheetBy t n s' → s ≡ s'
  -- its length can be asked for; lent that much room or more, the writer is never refused
  pub sheet-length : (t : List ℕ) (n : ℕ) → Accepted t n → (l : Result ℕ Fault) → LengthAnswered t n l
      → (k : ℕ) × (l ≡ Ok k) × ((s : List ℕ) → SheetBy t n s → length s ≡ k)
      × ((before after : List ℕ) (w : Result ℕ Fault) → Wrote t n before w after → k ≤ length before → w ≡ Ok k)
  -- the sheets of two accepted tables read with the same glyph count are equal exactly when the tables mean the same: equal sheets, equal answers to
  -- every question; equal answers to the questions that a call can be asked, equal sheets
  pub same_tables : (t u s s' : List ℕ) (n : ℕ) → Bytes t → Bytes u → Accepted t n → Accepted u n → SheetBy t n s → SheetBy u n s'
      → (s ≡ s' → (q : Question) → ask (meaning_of t n) q ≡ ask (meaning_of u n) q) × (Same (meaning_of t n) (meaning_of u n) → s ≡ s')
  -- a table's sheet is accepted, whatever outcome the check has
  pub table-accepted : (t s : List ℕ) (n : ℕ) → Bytes t → Accepted t n → SheetBy t n s → (c : Judgement) → SheetChecked s c → c ≡ accepted
  -- it reads back to the table's meaning: whichever part is asked for, the reader's answer is the table's
  pub table-answers : (t s : List ℕ) (n : ℕ) → Bytes t → Accepted t n → SheetBy t n s → (o : Outcomes) → Parts s o
      → (q : Question) → Asked q → reply_to o q ≡ unless_bad (table_fault t n) (ask (meaning_of t n) q)
  -- every accepted sheet is written for one meaning, and reads back to it
  pub sheet-answers : (s : List ℕ) → Sheet s
      → (m : Meaning) × Valid m × (write m ≡ s) × ((m' : Meaning) → Valid m' → write m' ≡ s → m ≡ m')
      × ((o : Outcomes) → Parts s o → (q : Question) → Asked q → reply_to o q ≡ given (ask m q))
  -- no other accepted sheet has that meaning: two that give the same answers are equal
  pub same-sheets : (s s' : List ℕ) → Sheet s → Sheet s' → (o o' : Outcomes) → Parts s o → Parts s' o' → Alike o o' → s ≡ s'
  -- the calls that judge the bytes first promise no less
  pub calls-parts : (s : List ℕ) (o : Outcomes) → Calls s o → Parts s o
