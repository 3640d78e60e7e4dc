-- What a line's verdicts are asked of: the sizes, classes and movements of its glyphs, beside an accepted table.
use Rattle.std.specs.Prelude.{ℕ, ◌*◌, ◌≤◌, ◌≡◌, Bool, List, map, ℤ, length, get_or}
use Rattle.fields.specs.Faults.{Clear}
use Rattle.share.specs.Line.{signed_of, evens, odds}
use Rattle.table.specs.Table.{table_fault}

-- the sizes, classes and movements of a line's glyphs
pub record Moved : Type 0 where
  pub sizes : List ℕ
  pub classes : List ℕ
  pub before : List ℤ
  pub after : List ℤ

-- the movements given without their sign, side by side, of a line that shrinks or not
abbrev pub moved : Bool → List ℕ → List ℕ → List ℕ → Moved
moved shrink sizes classes moves =
    record { sizes = sizes; classes = classes; before = map (signed_of shrink) (evens moves); after = map (signed_of shrink) (odds moves) }

-- the sizes and the classes have an element for each glyph, of which there are at most 1,024, and the movements two, none above that of the widest gap
pub record FitsGlyphs (zs cs ms glyphs : List ℕ) : Type 0 where
  pub few : length glyphs ≤ 1024
  pub sizes : length zs ≡ length glyphs
  pub classes : length cs ≡ length glyphs
  pub moves : length ms ≡ 2 * length glyphs
  pub small : (side : ℕ) → get_or ms side 0 ≤ 1073741823

-- what is asked of a table and a line before their verdicts are kept: the table is accepted, the line has its classes and movements
pub record HasMoves (t : List ℕ) (n : ℕ) (sizes classes moves glyphs : List ℕ) : Type 0 where
  pub accepted : table_fault t n ≡ Clear
  pub fits : FitsGlyphs sizes classes moves glyphs
