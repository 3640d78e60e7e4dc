-- The outcomes of the calls that measure and write a table's sheet, and what is known of them: no more than the calls promise.
use Rattle.std.specs.Prelude.{Result, Ok}
use Rattle.fields.specs.declared.Fault.{Fault}
use Rattle.std.specs.Prelude.{ℕ, ◌≡◌, List, take}
use Rattle.sheet_write.specs.Written.{says_length, says_written, sheet_length, SheetOutcome, written}

-- an answer of `sheet_length` for the table t read with N
abbrev pub LengthAnswered : List ℕ → ℕ → Result ℕ Fault → Type 0
LengthAnswered t n answer = says_length answer ≡ sheet_length t n

-- an answer of `write_sheet`, with the room as it was lent and as it is handed back
abbrev pub Wrote : List ℕ → ℕ → List ℕ → Result ℕ Fault → List ℕ → Type 0
Wrote t n before answer after = ◌≡◌ {A = SheetOutcome} (record { said = says_written answer; room = after }) (written t n before)

-- s is the first bytes of the room, as many as were answered
abbrev pub FirstBytes : ℕ → List ℕ → List ℕ → Type 0
FirstBytes size after s = s ≡ take size after

-- s is a sheet that was written for the table: some room was lent, a size was answered, and s is so much of the room afterwards
pub record SheetBy (t : List ℕ) (n : ℕ) (s : List ℕ) : Type 0 where
  pub before : List ℕ
  pub after : List ℕ
  pub size : ℕ
  pub run : Wrote t n before (Ok size) after
  pub sheet : FirstBytes size after s
