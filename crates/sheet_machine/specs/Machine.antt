-- Sections 1 to 4 of a direction (document 01, "The sheet"): a machine or none, as they stand in bytes. S is the least number from 2 on such that rows
-- below S lead only below S (document 01, "The table").
use Rattle.std.specs.Prelude.{ℕ, ◌+◌, ◌*◌, ◌≤◌, ◌<◌, ◌≡◌, Bool, List, ◌++◌, length, get_or, drop}
use Rattle.fields.specs.Field.{u16_at, u32_at}
use Rattle.encoding.specs.Codes.{Found}
use Rattle.encoding.specs.Sections.{run_section, numbered}
use Rattle.encoding.specs.Tests.{Says}
use Rattle.sheet_sections.specs.RunSection.{Below}
use Rattle.types.specs.declared.Entry.{Entry}
use Rattle.meaning.specs.Discrete.{Entry-discrete}
use Rattle.meaning.specs.Limits.{Closed}
use Rattle.meaning.specs.Sheet.{entry_code}
use Rattle.sheet_cells.specs.Cells.{OkCells}

-- S and class count within their limits
pub record Sizes (rows classes : ℕ) : Type 0 where
  pub some-rows : 2 ≤ rows
  pub few-rows : rows ≤ 256
  pub some-classes : 4 ≤ classes
  pub few-classes : classes ≤ 255

-- ---- S, by where each cell leads

-- rows below u lead only below u, f k being the row that the k-th cell leads to
abbrev pub ClosedBy : (ℕ → ℕ) → ℕ → ℕ → Type 0
ClosedBy f classes u = (k : ℕ) → k < u * classes → f k < u

-- no smaller number is closed
abbrev pub LeastBy : (ℕ → ℕ) → ℕ → ℕ → Type 0
LeastBy f classes rows = (u : ℕ) → 2 ≤ u → u < rows → ClosedBy f classes u → ⊥

-- the row that the k-th cell leads to: entries stand at one place, the cells' numbers at another
unfoldable pub row_at : List ℕ → ℕ → ℕ → ℕ → ℕ
row_at bytes entries cells k = u16_at bytes (entries + 4 * get_or bytes (cells + k) 0)

-- the cells stand inside, and lead below the row count
pub record ReadableCells (bytes : List ℕ) (entries cells classes rows : ℕ) : Type 0 where
  pub sizes : Sizes rows classes
  pub numbers-in : cells + rows * classes ≤ length bytes
  pub entries-in : (k : ℕ) → k < rows * classes → entries + 4 * get_or bytes (cells + k) 0 + 4 ≤ length bytes
  pub rows_in : (k : ℕ) → k < rows * classes → row_at bytes entries cells k < rows

-- ---- sections 3 and 4

-- no smaller number is closed, of cells as a list
abbrev pub Least : ℕ → ℕ → List Entry → Type 0
Least classes rows cells = (u : ℕ) → 2 ≤ u → u < rows → Closed classes cells u → ⊥

-- the cells of so many rows, S being the least
abbrev pub OkLeast : ℕ → ℕ → List Entry → Type 0
OkLeast rows classes cells = OkCells rows (rows * classes) cells × Least classes rows cells

-- the bytes of a valid value stand at a place
abbrev pub Stands : {A : Type 0} → (A → List ℕ) → (A → Type 0) → List ℕ → ℕ → Type 0
Stands code ok bytes at = (q : ℕ) × Found code ok bytes at q

-- what is said of the cells that stand at a place
abbrev pub OfCells : Bool → List ℕ → ℕ → ℕ → ℕ → Type 0
OfCells r bytes at rows classes =
    (cells : List Entry) (rest : List ℕ) → OkCells rows (rows * classes) cells → drop at bytes ≡ numbered Entry-discrete entry_code cells ++ rest
    → Says r (Least classes rows cells)

-- ---- sections 2 to 4: every glyph's class, and the cells

abbrev pub within_bytes : List ℕ × List Entry → List ℕ
within_bytes p = run_section 1 p.0 ++ numbered Entry-discrete entry_code p.1

abbrev pub OkWithin : ℕ → ℕ → ℕ → List ℕ × List Entry → Type 0
OkWithin glyphs rows classes p = Below glyphs classes p.0 × OkLeast rows classes p.1

-- ---- section 1

-- none: four sections of count 0
pub record NoMachine (bytes : List ℕ) (at : ℕ) : Type 0 where
  pub room : at + 16 ≤ length bytes
  pub no-machine : u32_at bytes at ≡ 0
  pub no-runs : u32_at bytes (at + 4) ≡ 0
  pub no-entries : u32_at bytes (at + 8) ≡ 0
  pub no_cells : u32_at bytes (at + 12) ≡ 0

-- one, with its sizes
pub record OneMachine (bytes : List ℕ) (at : ℕ) : Type 0 where
  pub room : at + 12 ≤ length bytes
  pub one : u32_at bytes at ≡ 1
  pub sizes : Sizes (u32_at bytes (at + 4)) (u32_at bytes (at + 8))
