-- Sections 1 to 4 of a sheet for the machine of a table, or for none (document 01, "The sheet").
use Rattle.std.specs.Prelude.{ℕ, ◌≤◌, ◌<◌, ◌≡◌, List, ◌++◌}
use Rattle.std.proofs.Math.Option.{Option}
use Rattle.meaning.specs.Meaning.{Machine}
use Rattle.meaning.specs.Sheet.{machine_section, class_section, entry_section, cell_section}
use Rattle.machine.specs.Cells.{class_at}
use Rattle.table.specs.Means.{machine_of}

unfoldable pub machine_parts : Option Machine → List ℕ
machine_parts m = machine_section m ++ class_section m ++ entry_section m ++ cell_section m

-- those of the machine at an offset, 0 for none
unfoldable pub machine_bytes : List ℕ → ℕ → ℕ → List ℕ
machine_bytes t n offset = machine_parts (machine_of t n offset)

-- the glyphs from `glyph` up to `end` have one class, and if it is not 1, the glyph there has another
pub record OneClass (t : List ℕ) (n here glyph end : ℕ) : Type 0 where
  pub more : glyph < end
  pub most : end ≤ n
  pub same : (g : ℕ) → glyph ≤ g → g < end → class_at t here g ≡ class_at t here glyph
  pub other : (class_at t here glyph ≡ 1 → ⊥) → end < n → class_at t here end ≡ class_at t here glyph → ⊥
