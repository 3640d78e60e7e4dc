-- The differences of two machines, in the tables t and u (document 02, 6/14): of machines of one size, classes by glyph, cells row by row.
use Rattle.std.specs.Prelude.{ℕ, ◌+◌, ◌≤◌, ◌<◌, ◌^◌, ◌≡◌, List}
use Rattle.std.proofs.Math.Option.{some}
use Rattle.std.proofs.Math.Decide.{ℕ_discrete}
use Rattle.meaning.specs.Discrete.{Entry-discrete}
use Rattle.machine.specs.declared.ClassTable.{ClassTable}
use Rattle.machine.specs.Cells.{class_count, class_at, cell_at}
use Rattle.machine.specs.Rows.{row_count}
use Rattle.table.specs.Means.{machine_at}
use Rattle.diff_rule.specs.declared.Aspect.TheVariants.{Class, Cell}
use Rattle.diff_rule.specs.declared.Difference.{Difference}
use Rattle.diff_rule.specs.Differences.{mark_of, noted, through, machines_differ}
use Rattle.diff_machine.specs.declared.Machines.{Machines}
use Rattle.std.specs.declared.ops.Range.{Range}

abbrev pub class_differs : List ℕ → List ℕ → Machines → ℕ → List Difference
class_differs t u m g = noted m.direction Class g 0 (mark_of ℕ_discrete (some (class_at t m.first g)) (some (class_at u m.second g)))

unfoldable pub classes_by : List ℕ → List ℕ → Machines → List Difference
classes_by t u m = through (class_differs t u m) m.glyphs 0

abbrev pub cell_differs : List ℕ → List ℕ → Machines → ℕ → ℕ → List Difference
cell_differs t u m r c = noted m.direction Cell r c (mark_of Entry-discrete (some (cell_at t m.first r c)) (some (cell_at u m.second r c)))

-- a row's cells, and those of all rows
unfoldable pub row_by : List ℕ → List ℕ → Machines → ℕ → List Difference
row_by t u m r = through (cell_differs t u m r) m.classes 0

unfoldable pub cells_by : List ℕ → List ℕ → Machines → List Difference
cells_by t u m = through (row_by t u m) m.rows 0

-- the differences of the two, of whatever sizes
abbrev pub machines_by : List ℕ → List ℕ → Machines → List Difference
machines_by t u m = machines_differ m.direction m.glyphs (some (machine_at t m.glyphs m.first)) (some (machine_at u m.glyphs m.second))

-- the sizes told are those of the first
pub record SizesAt (t : List ℕ) (m : Machines) : Type 0 where
  pub rows : m.rows ≡ row_count t m.first
  pub classes : m.classes ≡ class_count t m.first

-- both stand near and have classes, and the sizes told are small
pub record WithClasses (t u : List ℕ) (m : Machines) : Type 0 where
  pub first : m.first < 2 ^ 32
  pub second : m.second < 2 ^ 32
  pub few : m.glyphs < 2 ^ 16
  pub rows : m.rows < 2 ^ 16
  pub classes : m.classes < 2 ^ 16
  pub ones : 0 < class_count t m.first
  pub others : 0 < class_count u m.second

-- the glyphs below n of a stretch hold all that one of two class tables covers; there may be others among them
pub record Spans (ones others : ClassTable) (n : ℕ) (s : Range ℕ) : Type 0 where
  pub rises : s.start ≤ s.end
  pub most : s.end ≤ n
  pub low : (x : ℕ) → x < s.start → (x < ones.first) × (x < others.first)
  pub high : (x : ℕ) → s.end ≤ x → x < n → (ones.first + ones.count ≤ x) × (others.first + others.count ≤ x)
