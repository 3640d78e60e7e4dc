-- The text that the printing program writes (document 01, "Sample lines and tables", the passage on the program): a table's sheet in hex lines,
-- or one line with the number of a refusal. It depends on the input alone.
use Rattle.std.specs.Prelude.{Ok, Err}
use Rattle.std.specs.Prelude.{ℕ, ◌+◌, ◌*◌, cond, ◌||◌, List, leb, ltb, length, drop}
use Rattle.fields.specs.Faults.{FirstFault}
use Rattle.fields.specs.Faults.{Clear, Bad}
use Rattle.fields.specs.Field.{u16_at}
use Rattle.fields.specs.Refusals.{number_of}
use Rattle.table.specs.Table.{table_fault}
use Rattle.sheet_write.specs.Written.{sheet_of}
use Rattle.sheet_text.specs.Printed.{line_count, printed_sheet, printed_refusal}

-- ---- a table and a glyph count

-- the room for a sheet: a longer one is refused by number 16
abbrev pub sheet_room : ℕ
sheet_room = 65536

-- the room for its text, 147,456 bytes: two digits for each byte, and a newline for each line
abbrev pub text_room : ℕ
text_room = 2 * sheet_room + line_count sheet_room

unfoldable pub text_by : FirstFault → List ℕ → List ℕ
text_by (Ok u) sheet = cond (leb (length sheet) sheet_room) (printed_sheet sheet) (printed_refusal 16)
text_by (Err f) sheet = printed_refusal (number_of f.refusal)

unfoldable pub table_text : List ℕ → ℕ → List ℕ
table_text t n = text_by (table_fault t n) (sheet_of t n)

-- ---- what standard input has: the glyph count in two bytes, then the table

-- the longest input, the glyph count's bytes among them
abbrev pub longest_input : ℕ
longest_input = 65536

-- an input too short for a glyph count, or too long, is refused as a table's length is
unfoldable pub program_text : List ℕ → List ℕ
program_text input =
    cond (ltb (length input) 2 || ltb longest_input (length input))
    (printed_refusal 1)
    (table_text (drop 2 input) (u16_at input 0))
