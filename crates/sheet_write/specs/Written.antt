-- Writing the sheet of a table (document 01, "The sheet" and "Numbers of refusal"): the first bytes of the room are what is written for the table's
-- meaning, and the rest of the room is as it was; or the refusal that bars the table; or refusal 16, given exactly where the sheet is longer than the room.
-- A refusal changes no byte; it has its offset beside its number (document 02, 4/14), which is 0 for 16.
use Rattle.std.specs.Prelude.{Result, Ok, Err}
use Rattle.std.specs.Prelude.{ℕ, ◌≤◌, cond, ◌≡◌, List, ◌++◌, length, take, drop, leb}
use Rattle.fields.specs.declared.Fault.{Fault}
use Rattle.fields.specs.Faults.{FirstFault}
use Rattle.fields.specs.Faults.{Clear, Bad}
use Rattle.fields.specs.Refusals.{number_of}
use Rattle.meaning.specs.Sheet.{write}
use Rattle.table.specs.Table.{table_fault}
use Rattle.table.specs.Means.{meaning_of}

-- the sheet of an accepted table
unfoldable pub sheet_of : List ℕ → ℕ → List ℕ
sheet_of t n = write (meaning_of t n)

-- what an answer says: the number and the offset of a refusal, or a number of bytes
pub data Said : Type 0 where
  refused : ℕ → ℕ → Said
  bytes : ℕ → Said

abbrev pub says_length : Result ℕ Fault → Said
says_length (Ok n) = bytes n
says_length (Err f) = refused (number_of f.refusal) f.at

abbrev pub says_written : Result ℕ Fault → Said
says_written = says_length

-- ---- the sheet's length

abbrev pub length_by : FirstFault → List ℕ → Said
length_by (Ok u) sheet = bytes (length sheet)
length_by (Err f) sheet = refused (number_of f.refusal) f.at

unfoldable pub sheet_length : List ℕ → ℕ → Said
sheet_length t n = length_by (table_fault t n) (sheet_of t n)

-- ---- the sheet written: what is answered, and what the room holds afterwards

pub record SheetOutcome : Type 0 where
  pub said : Said
  pub room : List ℕ

unfoldable pub stored : List ℕ → List ℕ → SheetOutcome
stored sheet room =
    cond (leb (length sheet) (length room))
    (record { said = bytes (length sheet); room = sheet ++ drop (length sheet) room })
    (record { said = refused 16 0; room = room })

unfoldable pub written_by : FirstFault → List ℕ → List ℕ → SheetOutcome
written_by (Ok u) sheet room = stored sheet room
written_by (Err f) sheet room = record { said = refused (number_of f.refusal) f.at; room = room }

unfoldable pub written : List ℕ → ℕ → List ℕ → SheetOutcome
written t n room = written_by (table_fault t n) (sheet_of t n) room

-- a draft begins with the sheet, if it is long enough
abbrev pub Draft : List ℕ → List ℕ → Type 0
Draft sheet draft = length sheet ≤ length draft → take (length sheet) draft ≡ sheet
