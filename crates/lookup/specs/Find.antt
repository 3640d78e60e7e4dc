-- The value that the lookup at an offset of the table gives a glyph (document 01, "The table", the lookup's passage). In formats 2, 4 and 6 it is the
-- value of the first counted unit that covers the glyph: in a lookup with no fault at most one does.
use Rattle.std.specs.Prelude.{None, Option, Some}
use Rattle.std.specs.Prelude.{ℕ, zero, suc, ◌+◌, ◌-◌, ◌*◌, List, Bool, cond, ◌&&◌, ◌||◌, leb, ltb, eqb}
use Rattle.fields.specs.Field.{u16_at}
use Rattle.lookup.specs.Units.{unit_size, last_of, first_of}

-- whether the unit at `p` covers a glyph
unfoldable pub covers : List ℕ → ℕ → ℕ → ℕ → Bool
covers t format glyph p = leb (first_of t format p) glyph && leb glyph (last_of t p)

-- what the unit at `p` gives a glyph that it covers: its value (formats 2 and 6), or the glyph's place in the array whose offset it has (format 4)
unfoldable pub unit_value : List ℕ → ℕ → ℕ → ℕ → ℕ → ℕ
unit_value t format at glyph p =
    cond (eqb format 2) (u16_at t (p + 4))
    (cond (eqb format 4) (u16_at t (at + u16_at t (p + 4) + 2 * (glyph - u16_at t (p + 2))))
    (u16_at t (p + 2)))

-- what the first of `n` units from `p` on that covers the glyph gives it
unfoldable pub units_value : List ℕ → ℕ → ℕ → ℕ → ℕ → ℕ → Option ℕ
units_value t format at glyph zero p = None
units_value t format at glyph (suc n) p =
    cond (covers t format glyph p) (Some (unit_value t format at glyph p))
    (units_value t format at glyph n (p + unit_size format))

-- formats 2, 4 and 6 have units
unfoldable pub has_units : ℕ → Bool
has_units format = eqb format 2 || eqb format 4 || eqb format 6

-- how many units the lookup at `at` counts
unfoldable pub unit_count : List ℕ → ℕ → ℕ
unit_count t at = cond (has_units (u16_at t at)) (u16_at t (at + 4)) 0

-- format 8: first, count, values
unfoldable pub trimmed_value : List ℕ → ℕ → ℕ → Option ℕ
trimmed_value t at glyph =
    cond (leb (u16_at t (at + 2)) glyph && ltb glyph (u16_at t (at + 2) + u16_at t (at + 4)))
    (Some (u16_at t (at + 6 + 2 * (glyph - u16_at t (at + 2)))))
    None

-- the value where the units that are looked at are `n`, from `p` on
unfoldable pub value_from : List ℕ → ℕ → ℕ → ℕ → ℕ → Option ℕ
value_from t at glyph n p =
    cond (eqb (u16_at t at) 0) (Some (u16_at t (at + 2 + 2 * glyph)))
    (cond (eqb (u16_at t at) 8) (trimmed_value t at glyph)
    (units_value t (u16_at t at) at glyph n p))

-- The value at a glyph: among all counted units, which stand 12 bytes past the lookup's start. A glyph that the font has not has none. A font has
-- at most 65,535 glyphs, so glyph 0xFFFF has none, and a counted closing unit covers nothing.
unfoldable pub value_of : List ℕ → ℕ → ℕ → ℕ → Option ℕ
value_of t glyphs at glyph = cond (ltb glyph glyphs) (value_from t at glyph (unit_count t at) (at + 12)) None
