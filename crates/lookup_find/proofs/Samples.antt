-- Two small lookups by which the looks of a find can be counted by hand (document 02, 9/14): a closing unit is left out, a unit that only ends at FFFF is not.
use Prim.Native.Nat.{ℕ}
use mathlib.Core.Path.{◌≡◌, refl}
use mathlib.Core.List.{List, [], ◌∷◌, map}
use Rattle.fields.specs.Field.{u16_at}
use Rattle.lookup.specs.Units.{unit_size, first_of}
use Rattle.lookup.specs.Find.{covers, has_units, unit_count}
use Rattle.lookup_find.specs.Halves.{closes, open_of, open_count, looks_in, looks_of}

-- format 6, unit size 4, four units: glyphs 2, 5 and 9, and the closing unit
unfoldable pub singles : List ℕ
singles =
    0 ∷ 6 ∷ 0 ∷ 4 ∷ 0 ∷ 4 ∷ 0 ∷ 0 ∷ 0 ∷ 0 ∷ 0 ∷ 0
    ∷ 0 ∷ 2 ∷ 0 ∷ 0
    ∷ 0 ∷ 5 ∷ 0 ∷ 0
    ∷ 0 ∷ 9 ∷ 0 ∷ 0
    ∷ 255 ∷ 255 ∷ 0 ∷ 0 ∷ []

-- a find can look at three
pub singles-open : open_count singles 0 ≡ 3
unfolding singles u16_at unit_size first_of has_units unit_count closes open_of
singles-open = refl

-- glyph 5 is met at the first look; a glyph on either side of it takes two, found or not; the deleted glyph takes none
pub singles-looks : map (looks_of singles 0) (5 ∷ 2 ∷ 9 ∷ 3 ∷ 65534 ∷ 65535 ∷ []) ≡ 1 ∷ 2 ∷ 2 ∷ 2 ∷ 2 ∷ 0 ∷ []
unfolding singles u16_at unit_size first_of has_units unit_count covers closes open_of looks_in looks_of
singles-looks = refl

-- format 2, unit size 6, two units: glyphs 1 to 4, and glyphs 6 to FFFF, which is no closing unit
unfoldable pub ranges : List ℕ
ranges =
    0 ∷ 2 ∷ 0 ∷ 6 ∷ 0 ∷ 2 ∷ 0 ∷ 0 ∷ 0 ∷ 0 ∷ 0 ∷ 0
    ∷ 0 ∷ 4 ∷ 0 ∷ 1 ∷ 0 ∷ 7
    ∷ 255 ∷ 255 ∷ 0 ∷ 6 ∷ 0 ∷ 8 ∷ []

-- a find can look at both
pub ranges-open : open_count ranges 0 ≡ 2
unfolding ranges u16_at unit_size first_of has_units unit_count closes open_of
ranges-open = refl

-- the lower of two is looked at first: what it covers, and what stands before it, takes one look, all that stands after it two
pub ranges-looks : map (looks_of ranges 0) (4 ∷ 0 ∷ 5 ∷ 6 ∷ 65534 ∷ 65535 ∷ []) ≡ 1 ∷ 1 ∷ 2 ∷ 2 ∷ 2 ∷ 0 ∷ []
unfolding ranges u16_at unit_size first_of has_units unit_count covers closes open_of looks_in looks_of
ranges-looks = refl
