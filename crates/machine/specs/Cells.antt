-- What a class machine of a table holds (document 01, "The table", Machine), read as if zeros followed the table. `here` is the place after the
-- 8-byte header, which is not read: class count, then class table, state array and entry table as offsets from here.
use Rattle.std.specs.Prelude.{ℕ, ◌+◌, ◌-◌, ◌*◌, ◌/◌, cond, ◌&&◌, List, get_or, leb, ltb}
use Rattle.fields.specs.Field.{u16_at}
use Rattle.types.specs.declared.Entry.{Entry}

-- the class count, and where the class table, the state array and the entry table stand; new rows count from `here` as the state array's offset does
abbrev pub class_count : List ℕ → ℕ → ℕ
class_count t here = u16_at t here

abbrev pub class_table : List ℕ → ℕ → ℕ
class_table t here = here + u16_at t (here + 2)

abbrev pub array_offset : List ℕ → ℕ → ℕ
array_offset t here = u16_at t (here + 4)

abbrev pub state_array : List ℕ → ℕ → ℕ
state_array t here = here + array_offset t here

abbrev pub entry_table : List ℕ → ℕ → ℕ
entry_table t here = here + u16_at t (here + 6)

-- a glyph's class: its byte of the class table (first glyph, count, one byte each), class 1 for a glyph that the table does not cover
unfoldable pub class_at : List ℕ → ℕ → ℕ → ℕ
class_at t here glyph =
    cond (leb (u16_at t (class_table t here)) glyph && ltb glyph (u16_at t (class_table t here) + u16_at t (class_table t here + 2)))
    (get_or t (class_table t here + 4 + (glyph - u16_at t (class_table t here))) 0)
    1

-- the row that a byte offset names: so many whole rows past the state array
abbrev pub row_number : List ℕ → ℕ → ℕ → ℕ
row_number t here offset = (offset - array_offset t here) / class_count t here

-- the entry with a stored number: its new row's number, and its flags
unfoldable pub entry_at : List ℕ → ℕ → ℕ → Entry
entry_at t here number =
    record {
      row = row_number t here (u16_at t (entry_table t here + 4 * number));
      flags = u16_at t (entry_table t here + 4 * number + 2);
    }

-- the stored entry number of a row and a class, and the entry that it names
abbrev pub number_at : List ℕ → ℕ → ℕ → ℕ → ℕ
number_at t here row class = get_or t (state_array t here + row * class_count t here + class) 0

unfoldable pub cell_at : List ℕ → ℕ → ℕ → ℕ → Entry
cell_at t here row class = entry_at t here (number_at t here row class)
