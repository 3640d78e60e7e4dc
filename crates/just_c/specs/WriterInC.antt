-- What the calls that measure and write a table's sheet say in C: a refusal is its number, its offset and length 0, anything else the sheet's length in bytes.
use Rattle.std.specs.Prelude.{ℕ, List}
use Rattle.sheet_write.specs.Written.{Said, refused, bytes, SheetOutcome}
use Rattle.just_c.specs.declared.JustLength.{JustLength}

abbrev pub length_in : Said → JustLength
length_in (refused n at) = record { refusal = n; offset = at; length = 0 }
length_in (bytes k) = record { refusal = 0; offset = 0; length = k }

-- the answer, and what the lent room holds afterwards
pub record OutcomeInC : Type 0 where
  pub answer : JustLength
  pub room : List ℕ

abbrev pub outcome_in : SheetOutcome → OutcomeInC
outcome_in o = record { answer = length_in o.said; room = o.room }
