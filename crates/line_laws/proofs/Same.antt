-- Tables that mean the same justify every line alike: of two accepted tables of one glyph count with equal sheets, every line has one outcome, whatever its direction.
use Prim.Native.Nat.{ℕ}
use mathlib.Core.Path.{◌≡◌, refl, sym, ap, ap₂, ◌∙◌}
use mathlib.Core.List.{List, ◌∷◌, ◌++◌}
use lib.ListN.{length}
use Rattle.fields.specs.Faults.{FirstFault}
use Rattle.fields.specs.Field.{Bytes}
use Rattle.fields.specs.Faults.{◌then◌, first_fault}
use Rattle.meaning.specs.Meaning.{Side, Meaning}
use Rattle.meaning.specs.Ask.{side_of}
use Rattle.meaning.specs.Sheet.{write}
use Rattle.meaning.proofs.SheetLaws.{write-injective}
use Rattle.table.specs.Table.{Accepted, table_fault}
use Rattle.table.specs.Means.{meaning_of}
use Rattle.table_laws.proofs.Valid.{valid-meaning}
use Rattle.line_rule.specs.Line.{Line}
use Rattle.line_call.specs.Justified.{Lent, Outcome, lengths_of, work_tests, room_test, worked_fault, line_fault, settled, justified}
use Rattle.line_input.specs.Input.{input_tests}

-- a line's outcome from its table's fault and the meaning of its direction
abbrev outcome_by : ℕ → Line → Lent → FirstFault → Side → Outcome
outcome_by n l b f s = settled (first_fault (f ∷ (input_tests l (lengths_of b) ++ work_tests s n l)) then room_test s l (length b.verdicts)) s l b

outcome-by : (t : List ℕ) (n : ℕ) (l : Line) (b : Lent) → justified t n l b ≡ outcome_by n l b (table_fault t n) (side_of l.direction (meaning_of t n))
unfolding justified line_fault worked_fault
outcome-by t n l b = refl

-- EQUAL SHEETS, EQUAL LINES
pub same_lines : (t u : List ℕ) (n : ℕ) → Bytes t → Bytes u → Accepted t n → Accepted u n → write (meaning_of t n) ≡ write (meaning_of u n)
    → (l : Line) (b : Lent) → justified t n l b ≡ justified u n l b
unfolding Accepted
same_lines t u n tb ub ta ua e l b =
    let m : meaning_of t n ≡ meaning_of u n = write-injective (meaning_of t n) (meaning_of u n) (valid-meaning t n tb ta) (valid-meaning u n ub ua) e in
    outcome-by t n l b
    ∙ ap₂ (outcome_by n l b) (ta ∙ sym ua) (ap (λ (x : Meaning). side_of l.direction x) m)
    ∙ sym (outcome-by u n l b)
