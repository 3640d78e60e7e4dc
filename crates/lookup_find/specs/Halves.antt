-- A find by halves (document 02, 9/14): it looks at the middle of the units left, the lower of two, stops if that covers the glyph, else keeps the half on
-- the glyph's side. This page has how many units it looks at; the value is the one that a walk finds (`value_of` of crate `lookup`, specs/Find.antt).
use Rattle.std.specs.Prelude.{ℕ, zero, suc, ◌+◌, ◌-◌, ◌*◌, ◌/◌, ◌<◌, ◌^◌, List, ◌≡◌, Bool, cond, ◌&&◌, ltb, eqb}
use Rattle.fields.specs.Faults.{Clear}
use Rattle.fields.specs.Field.{u16_at}
use Rattle.lookup.specs.Units.{unit_size, last_of, first_of}
use Rattle.lookup.specs.Lookup.{lookup_fault}
use Rattle.lookup.specs.Find.{covers, unit_count}
use Rattle.lookup_find.specs.declared.Head.{Head}

-- the place of the unit with number `k`, of units from `p` on
abbrev pub unit_of : ℕ → ℕ → ℕ → ℕ
unit_of format p k = p + unit_size format * k

-- the closing unit: FFFF FFFF in formats 2 and 4, FFFF in format 6
unfoldable pub closes : List ℕ → ℕ → ℕ → Bool
closes t format p = eqb (first_of t format p) 65535 && eqb (last_of t p) 65535

-- how many of `n` counted units from `p` on a find can look at: all, or, where the last is the closing one, all but that
unfoldable pub open_of : List ℕ → ℕ → ℕ → ℕ → ℕ
open_of t format p n = cond (closes t format (unit_of format p (n - 1))) (n - 1) n

-- how many units a find can look at in the lookup at `at`
abbrev pub open_count : List ℕ → ℕ → ℕ
open_count t at = open_of t (u16_at t at) (at + 12) (unit_count t at)

-- How many of `n` units from `p` on are looked at. Of n = k + 1 units the middle one has number k / 2: as many stand before it, k - k / 2 after it.
-- A look leaves fewer units than there were, so `n` turns are enough; `turns` counts them.
unfoldable pub looks_in : List ℕ → ℕ → ℕ → ℕ → ℕ → ℕ → ℕ
looks_in t format glyph zero p n = 0
looks_in t format glyph (suc turns) p zero = 0
looks_in t format glyph (suc turns) p (suc k) =
    suc
    (cond (covers t format glyph (unit_of format p (k / 2))) 0
    (cond (ltb glyph (first_of t format (unit_of format p (k / 2)))) (looks_in t format glyph turns p (k / 2))
    (looks_in t format glyph turns (unit_of format p (k / 2) + unit_size format) (k - k / 2))))

-- how many units a find of a glyph looks at in the lookup at `at`: none for a deleted glyph, and none in formats 0 and 8, which count no units
unfoldable pub looks_of : List ℕ → ℕ → ℕ → ℕ
looks_of t at glyph = cond (eqb glyph 65535) 0 (looks_in t (u16_at t at) glyph (open_count t at) (at + 12) (open_count t at))

-- ---- what the code keeps of a lookup

unfoldable pub head_at : List ℕ → ℕ → Head
head_at t at = record { format = u16_at t at; units = open_count t at }

-- a lookup whose head was read, without a fault for a font of `glyphs` glyphs
pub record Searchable (t : List ℕ) (glyphs at : ℕ) (head : Head) : Type 0 where
  pub near : at < 2 ^ 32
  pub read : head ≡ head_at t at
  pub few : glyphs < 65536
  pub clear : lookup_fault t glyphs at ≡ Clear
