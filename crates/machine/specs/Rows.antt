-- The rows of a machine (document 01, "The table", Machine; refusals 4 and 7): the row count S, and the first fault, rows upward and cell by cell.
use Rattle.std.specs.Prelude.{Result, Ok, Err}
use Rattle.std.specs.Prelude.{ℕ, zero, suc, ◌+◌, ◌-◌, ◌*◌, ◌%◌, ◌≤◌, ◌<◌, ◌^◌, max, cond, List, Bool, true, false, ◌≡◌, get_or, leb, ltb, eqb}
use Rattle.fields.specs.declared.Refusal.TheVariants.{BadMachine}
use Rattle.fields.specs.Faults.{FirstFault}
use Rattle.fields.specs.Faults.{Clear}
use Rattle.fields.specs.Field.{u16_at}
use Rattle.fields.specs.Faults.{◌then◌, rule, inside}
use Rattle.fields.specs.Walk.{each}
use Rattle.fields.specs.declared.Fault.{Fault}
use Rattle.machine.specs.declared.Grid.{Grid}
use Rattle.machine.specs.Cells.{class_count, array_offset, state_array, entry_table, entry_at, number_at, cell_at}

-- ---- the row count S

-- rows below k lead only below k
abbrev pub Closed : List ℕ → ℕ → ℕ → Type 0
Closed t here k = (row class : ℕ) → row < k → class < class_count t here → (cell_at t here row class).row < k

-- s is S: the least number, 2 or more, that is closed. Every row below s counts, whether or not another leads to it. `row_count` below is this number for each
-- machine without fault: `row_count-least` of proofs/Laws.antt, and `one-count` there says that no other number is.
pub record Least (t : List ℕ) (here s : ℕ) : Type 0 where
  pub two : 2 ≤ s
  pub most : s ≤ 256
  pub closed : Closed t here s
  pub least : (k : ℕ) → 2 ≤ k → Closed t here k → s ≤ k

-- ---- what is judged

-- where a cell's byte stands, and where an entry stands
abbrev pub cell_place : List ℕ → ℕ → ℕ → ℕ → ℕ
cell_place t here row class = state_array t here + row * class_count t here + class

abbrev pub entry_place : List ℕ → ℕ → ℕ → ℕ
entry_place t here number = entry_table t here + 4 * number

-- an entry: its new row is not before the state array, a whole number of rows past it, and at most row 255; then its flags, of any value
unfoldable pub entry_fault : List ℕ → ℕ → ℕ → FirstFault
entry_fault t here number =
    inside t (entry_place t here number) 2
    then rule (leb (array_offset t here) (u16_at t (entry_place t here number))) BadMachine (entry_place t here number)
    then rule (eqb ((u16_at t (entry_place t here number) - array_offset t here) % class_count t here) 0) BadMachine (entry_place t here number)
    then rule (leb (entry_at t here number).row 255) BadMachine (entry_place t here number)
    then inside t (entry_place t here number + 2) 2

-- a cell: its byte, then the entry that it names
unfoldable pub cell_fault : List ℕ → ℕ → ℕ → ℕ → FirstFault
cell_fault t here row class = inside t (cell_place t here row class) 1 then entry_fault t here (number_at t here row class)

-- `n` cells of a row from `class` on
abbrev pub cells_fault : List ℕ → ℕ → ℕ → ℕ → ℕ → FirstFault
cells_fault t here row n class = each (cell_fault t here row) (λ c. c + 1) n class

-- a row: a cell for each class
unfoldable pub row_fault : List ℕ → ℕ → ℕ → FirstFault
row_fault t here row = cells_fault t here row (class_count t here) 0

-- ---- rows upward, as far as rows lead

-- `n` cells of a row from `class` on raise the row count s above the rows that they lead to
unfoldable pub raised : List ℕ → ℕ → ℕ → ℕ → ℕ → ℕ → ℕ
raised t here row zero class s = s
raised t here row (suc n) class s = raised t here row n (class + 1) (max s ((cell_at t here row class).row + 1))

-- the row count s, raised by a whole row
unfoldable pub raised_by : List ℕ → ℕ → ℕ → ℕ → ℕ
raised_by t here row s = raised t here row (class_count t here) 0 s

-- the first fault of the rows from `row` on that are below the row count s, which each of them raises; at most `n` of them
unfoldable pub fault_from : List ℕ → ℕ → ℕ → ℕ → ℕ → FirstFault
fault_from t here zero row s = Clear
fault_from t here (suc n) row s = cond (ltb row s) (row_fault t here row then fault_from t here n (row + 1) (raised_by t here row s)) Clear

-- the row count that these rows give
unfoldable pub count_from : List ℕ → ℕ → ℕ → ℕ → ℕ → ℕ
count_from t here zero row s = s
count_from t here (suc n) row s = cond (ltb row s) (count_from t here n (row + 1) (raised_by t here row s)) s

-- a fault, or else the number
unfoldable pub unless : FirstFault → ℕ → Result ℕ Fault
unless (Ok u) s = Ok s
unless (Err f) s = Err f

-- the number; 0 where there is a fault
abbrev pub count_of : Result ℕ Fault → ℕ
count_of (Ok s) = s
count_of (Err f) = 0

-- the rows' first fault: rows 0 and 1 are always there, and no cell without fault leads past row 255
abbrev pub rows_fault : List ℕ → ℕ → FirstFault
rows_fault t here = fault_from t here 256 0 2

-- the rows' first fault, or else the row count
abbrev pub rows_of : List ℕ → ℕ → Result ℕ Fault
rows_of t here = unless (rows_fault t here) (count_from t here 256 0 2)

-- the row count; 0 where the rows are at fault
unfoldable pub row_count : List ℕ → ℕ → ℕ
row_count t here = count_of (rows_of t here)

-- ---- what the cells are read by

-- its fields are as small as those of a table are
pub record Small (g : Grid) : Type 0 where
  pub classes : g.classes < 2 ^ 16
  pub array : g.array < 2 ^ 16
  pub entries : g.entries < 2 ^ 34

-- those of the machine at `here`
pub record GridAt (t : List ℕ) (here : ℕ) (g : Grid) : Type 0 where
  pub classes : g.classes ≡ class_count t here
  pub array : g.array ≡ array_offset t here
  pub entries : g.entries ≡ entry_table t here
  pub small : Small g

-- ---- entries that were met

-- for each number that a cell may store, whether its entry was met: then the entry has no fault and leads below the row count s
pub record Met (t : List ℕ) (here s : ℕ) (met : List Bool) : Type 0 where
  pub clear : (number : ℕ) → number < 256 → get_or met number false ≡ true → entry_fault t here number ≡ Clear
  pub below : (number : ℕ) → number < 256 → get_or met number false ≡ true → (entry_at t here number).row < s
