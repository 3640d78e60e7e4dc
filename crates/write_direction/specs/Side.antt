-- One direction of a sheet for a table (document 01, "The sheet", sections 1 to 8), `at` being the direction's offset in the table, 0 where it is absent.
use Rattle.std.specs.Prelude.{ℕ, ◌≤◌, ◌<◌, ◌^◌, ◌≡◌, List, length}
use Rattle.fields.specs.Faults.{Clear}
use Rattle.meaning.specs.Sheet.{write_side}
use Rattle.table.specs.Table.{direction_fault}
use Rattle.table.specs.Means.{direction_of}

unfoldable pub side_bytes : List ℕ → ℕ → ℕ → List ℕ
side_bytes t n at = write_side (direction_of t n at)

-- a direction without fault
pub record ClearSide (t : List ℕ) (n at : ℕ) : Type 0 where
  pub bytes : length t ≤ 2 ^ 15
  pub few : n < 2 ^ 16
  pub near : at < 2 ^ 16
  pub clear : direction_fault t n at ≡ Clear
