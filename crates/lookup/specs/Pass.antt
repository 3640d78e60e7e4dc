-- A pass over glyphs upward, unit by unit (document 01, "Numbers of refusal": clusters and lists go by glyph). Units rise, so a unit whose glyphs were
-- passed is done with, and the pass looks at each unit once.
use Rattle.std.specs.Prelude.{ℕ, ◌+◌, ◌*◌, ◌≤◌, ◌<◌, ◌^◌, ◌≡◌, List, length}
use Rattle.fields.specs.Faults.{Clear}
use Rattle.fields.specs.Field.{u16_at}
use Rattle.lookup.specs.declared.Cursor.{Cursor}
use Rattle.lookup.specs.Units.{units_fault}
use Rattle.lookup.specs.Find.{unit_count, value_from}

-- A cursor of the lookup at `at` serves the glyphs from `glyph` on: to each of them the units from the cursor on give what all counted units give.
-- Those units are without a fault, so they rise, and they begin at `glyph` or later; the cursor stands near enough for places counted from it to be machine
-- numbers. The fields of format 8 are inside the table.
pub record Serves (t : List ℕ) (at glyph : ℕ) (c : Cursor) : Type 0 where
  pub same : (g : ℕ) → glyph ≤ g → value_from t at g c.left c.at ≡ value_from t at g (unit_count t at) (at + 12)
  pub rising : units_fault t (u16_at t at) c.left c.at glyph ≡ Clear
  pub counted : c.left ≤ unit_count t at
  pub near : c.at + 6 * c.left < 2 ^ 40
  pub trimmed : u16_at t at ≡ 8 → at + 6 ≤ length t
