-- The walk of a line by the machine in a table's bytes: the line's glyphs as the machine's classes (document 01, "The table", Machine: a deleted glyph is
-- class 2), and the walk as it is handed out.
use Rattle.std.specs.Prelude.{ℕ, ◌+◌, ◌*◌, ◌<◌, ◌≤◌, ◌^◌, ◌≡◌, Bool, cond, List, map, eqb, length, get_or, Option, Some, None}
use Rattle.fields.specs.Field.{u16_at}
use Rattle.machine.specs.Cells.{cell_at, class_at, class_count, number_at, state_array}
use Rattle.machine.specs.Rows.{entry_place, row_count}
use Rattle.class_walk.specs.Walk.{Machine, Line, Walk, going, stopped}

-- the machine of a table
abbrev pub machine_at : List ℕ → ℕ → Machine
machine_at t here = record { rows = row_count t here; classes = class_count t here; cell = cell_at t here }

-- where the cells of a row stand
abbrev pub row_place : List ℕ → ℕ → ℕ → ℕ
row_place t here row = state_array t here + row * class_count t here

abbrev pub line_of : List ℕ → Bool → Bool → Line
line_of columns starts ends = record { columns = columns; starts = starts; ends = ends }

-- the column of a glyph of a line, the machine's class of it: 2 for a deleted one
abbrev pub line_column : List ℕ → ℕ → ℕ → ℕ
line_column t here glyph = cond (eqb glyph 0xFFFF) 2 (class_at t here glyph)

abbrev pub line_columns : List ℕ → ℕ → List ℕ → List ℕ
line_columns t here line = map (line_column t here) line

-- a walk as it is handed out: the count of the entries that it took, or nothing where it never ends
unfoldable pub handed_out : Walk → Option ℕ
handed_out (stopped cs k) = Some k
handed_out (going s) = None

-- a walk as it is handed out beside the room that was lent for the classes; of one that never ends, what is left in the room is not said
pub record HandedOut (w : Walk) (r : Option ℕ) (room : List ℕ) : Type 0 where
  pub says : r ≡ handed_out w
  pub classes : (cs : List ℕ) (k : ℕ) → w ≡ stopped cs k → room ≡ cs

-- the machine at `here` is an accepted one: its rows lead below its row count, and an entry says where its new row stands
pub record SoundMachine (t : List ℕ) (here : ℕ) : Type 0 where
  pub near : here < 2 ^ 32
  pub rows-low : 2 ≤ row_count t here
  pub rows-high : row_count t here ≤ 256
  pub classes-low : 4 ≤ class_count t here
  pub classes-high : class_count t here ≤ 255
  pub closed : (row class : ℕ) → row < row_count t here → class < class_count t here → (cell_at t here row class).row < row_count t here
  pub exact : (row class : ℕ) → row < row_count t here → class < class_count t here
      → here + u16_at t (entry_place t here (number_at t here row class)) ≡ row_place t here (cell_at t here row class).row

-- a line's columns: at most 1,024, each one of the machine's classes
pub record Columns (t : List ℕ) (here : ℕ) (columns : List ℕ) : Type 0 where
  pub short : length columns ≤ 1024
  pub low : (place : ℕ) → place < length columns → get_or columns place 0 < class_count t here
