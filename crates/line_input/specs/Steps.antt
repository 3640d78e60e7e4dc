-- Names for the contracts of the functions here: the table's refusals with 9, 10, 18 and 11 as one fault, and the advances' sum and the gap as the code has them.
use Rattle.std.specs.Prelude.{ℕ, cond, ◌&&◌, List, ◌∷◌, ℤ, Option, Some, None}
use Rattle.fields.specs.Faults.{FirstFault, first_fault}
use Rattle.units.specs.declared.Units.{Units}
use Rattle.units.specs.Fixed.{in_units}
use Rattle.share.specs.Line.{sumℤ}
use Rattle.table.specs.Table.{table_fault}
use Rattle.line_rule.specs.Line.{Line, gap_of}
use Rattle.line_input.specs.Input.{within, none_negative, good_advances, input_tests}

-- ---- the table's refusals, then 9, 10, 18 and 11

unfoldable pub input_fault : List ℕ → ℕ → Line → List ℕ → FirstFault
input_fault t n l lengths = first_fault (table_fault t n ∷ input_tests l lengths)

-- ---- 12: the advances' sum, and the gap

abbrev pub sum_in : List ℤ → Option Units
sum_in advances = cond (none_negative advances && within (sumℤ advances)) (Some (in_units (sumℤ advances))) None

unfoldable pub gap_in : Line → Option Units
gap_in l = cond (good_advances l) (Some (in_units (gap_of l))) None
