-- Document 01's sample of the program: for 0001 and the table 00010000 0000 0000 0000 it prints `00000001` and sixteen lines `00000000`.
use mathlib.Core.Path.{◌≡◌, refl, ap₂, ◌∙◌}
use mathlib.Core.List.{◌∷◌, ◌++◌}
use native.Mathlib.Omega.{arith}
use lib.ListN.{replicate}
use Rattle.fields.specs.Field.{u16_at}
use Rattle.fields.specs.Faults.{Clear}
use Rattle.table.specs.Table.{table_fault, Accepted}
use Rattle.table_laws.specs.Samples.{bare_table}
use Rattle.table_laws.proofs.Samples.{bare-accepted, bare-sheet}
use Rattle.sheet_text.specs.Printed.{newline, printed_sheet}
use Rattle.sheet_text.proofs.HexSamples as printed
use Rattle.sheet_write.specs.Written.{sheet_of}
use Rattle.sheet_text.specs.Text.{text_by, table_text, program_text}

bare-clear : table_fault bare_table 1 ≡ Clear
unfolding Accepted
bare-clear = bare-accepted 1 (omega arith) (omega arith)

bare-bytes : sheet_of bare_table 1 ≡ 0 ∷ 0 ∷ 0 ∷ 1 ∷ replicate 64 0
unfolding sheet_of
bare-bytes = bare-sheet 1

input-text : program_text (0 ∷ 1 ∷ bare_table) ≡ table_text bare_table 1
unfolding program_text bare_table u16_at
input-text = refl

bare-text : table_text bare_table 1 ≡ printed_sheet (0 ∷ 0 ∷ 0 ∷ 1 ∷ replicate 64 0)
unfolding table_text text_by
bare-text = ap₂ text_by bare-clear bare-bytes

pub sample : program_text (0 ∷ 1 ∷ bare_table) ≡ replicate 7 48 ++ (49 ∷ newline ∷ printed.zeros 16)
sample = input-text ∙ bare-text ∙ printed.sample
