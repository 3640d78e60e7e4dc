-- The units of a lookup and its arrays of values (document 01, "The table", the lookup's passage; refusals 4 and 5): where the fields of a unit
-- stand, and the first fault of units and of arrays. Fields go in stored order. Each is found inside (refusal 4) and then judged (refusal 5), and a
-- comparison is judged at its later field.
use Rattle.std.specs.Prelude.{ℕ, ◌+◌, ◌-◌, min, List, cond, leb, eqb}
use Rattle.fields.specs.declared.Refusal.TheVariants.{BadLookup}
use Rattle.fields.specs.Faults.{FirstFault}
use Rattle.fields.specs.Field.{u16_at}
use Rattle.fields.specs.Faults.{◌then◌, rule, inside}
use Rattle.fields.specs.Walk.{walk, each}

-- ---- the fields of a unit at `p`

-- a unit's bytes: last, first, and a value (format 2) or an offset (format 4); a glyph and a value (format 6)
unfoldable pub unit_size : ℕ → ℕ
unit_size format = cond (eqb format 6) 4 6

-- the last and the first glyph: format 6's one glyph is both
abbrev pub last_of : List ℕ → ℕ → ℕ
last_of t p = u16_at t p

unfoldable pub first_of : List ℕ → ℕ → ℕ → ℕ
first_of t format p = u16_at t (cond (eqb format 6) p (p + 2))

-- ---- the first fault of a unit, whose first glyph has to be `least` or more

-- formats 2 and 4: last, first, value or offset; first is at most last
unfoldable pub range_fault : List ℕ → ℕ → ℕ → FirstFault
range_fault t p least =
    inside t p 2
    then inside t (p + 2) 2
    then rule (leb least (u16_at t (p + 2))) BadLookup (p + 2)
    then rule (leb (u16_at t (p + 2)) (u16_at t p)) BadLookup (p + 2)
    then inside t (p + 4) 2

-- format 6: glyph, value
unfoldable pub single_fault : List ℕ → ℕ → ℕ → FirstFault
single_fault t p least = inside t p 2 then rule (leb least (u16_at t p)) BadLookup p then inside t (p + 2) 2

unfoldable pub unit_fault : List ℕ → ℕ → ℕ → ℕ → FirstFault
unit_fault t format p least = cond (eqb format 6) (single_fault t p least) (range_fault t p least)

-- `n` units, each past the last glyph of the one before: they rise without overlap, a counted closing unit among them
abbrev pub units_fault : List ℕ → ℕ → ℕ → ℕ → ℕ → FirstFault
units_fault t format n p least = walk (unit_fault t format) (λ q. q + unit_size format) (λ q. last_of t q + 1) n p least

-- ---- arrays of values, followed for the font's glyphs only

-- `n` values, each a field of its own
abbrev pub array_fault : List ℕ → ℕ → ℕ → FirstFault
array_fault t n p = each (λ q. inside t q 2) (λ q. q + 2) n p

-- how many glyphs from `first` on, up to but not with `end`, are below `glyphs`
abbrev pub glyphs_below : ℕ → ℕ → ℕ → ℕ
glyphs_below glyphs first end = min end glyphs - first

-- format 4: the array of the unit at `p`, whose offset counts from the lookup's start `at`
unfoldable pub unit_array_fault : List ℕ → ℕ → ℕ → ℕ → FirstFault
unit_array_fault t glyphs at p = array_fault t (glyphs_below glyphs (u16_at t (p + 2)) (u16_at t p + 1)) (at + u16_at t (p + 4))

-- the arrays of `n` units
abbrev pub arrays_fault : List ℕ → ℕ → ℕ → ℕ → ℕ → FirstFault
arrays_fault t glyphs at n p = each (unit_array_fault t glyphs at) (λ q. q + 6) n p
