-- The first fault of an action list (document 01, "The table", the list, and "Numbers of refusal", 4 and 8): fields in stored order, each found inside the table
-- before it is judged, the count before the actions. An action's fields are named by their distance from its start, `at`; what follows its data up to its length is left alone.
use Rattle.std.specs.Prelude.{ℕ, ◌+◌, ◌*◌, ◌%◌, List, cond, ◌||◌, leb, ltb, eqb}
use Rattle.fields.specs.Faults.{FirstFault}
use Rattle.fields.specs.Faults.{Clear}
use Rattle.fields.specs.declared.Refusal.TheVariants.{BadActions}
use Rattle.fields.specs.Field.{u16_at, u32_at}
use Rattle.fields.specs.Faults.{◌then◌, rule, inside}
use Rattle.fields.specs.Walk.{each}

-- a glyph
unfoldable pub glyph_fault : List ℕ → ℕ → ℕ → FirstFault
glyph_fault t glyphs at = inside t at 2 then rule (ltb (u16_at t at) glyphs) BadActions at

-- type 2's added glyph: 0xFFFF is none
unfoldable pub added_fault : List ℕ → ℕ → ℕ → FirstFault
added_fault t glyphs at = inside t at 2 then rule (eqb (u16_at t at) 0xFFFF || ltb (u16_at t at) glyphs) BadActions at

-- type 0's count, 1 to 32; whether the action's length has room for so many glyphs is judged here, not at the length
unfoldable pub count_fault : List ℕ → ℕ → FirstFault
count_fault t at =
    inside t (at + 18) 2
    then rule (leb 1 (u16_at t (at + 18))) BadActions (at + 18)
    then rule (leb (u16_at t (at + 18)) 32) BadActions (at + 18)
    then rule (leb (20 + 2 * u16_at t (at + 18)) (u32_at t (at + 4))) BadActions (at + 18)

-- n glyphs from `at` on
abbrev pub glyphs_fault : List ℕ → ℕ → ℕ → ℕ → FirstFault
glyphs_fault t glyphs n at = each (glyph_fault t glyphs) (λ p. p + 2) n at

-- lower, upper, order, count, glyphs
unfoldable pub type0_fault : List ℕ → ℕ → ℕ → FirstFault
type0_fault t glyphs at =
    inside t (at + 8) 4
    then inside t (at + 12) 4
    then inside t (at + 16) 2
    then count_fault t at
    then glyphs_fault t glyphs (u16_at t (at + 18)) (at + 20)

-- threshold, added glyph, substitute
unfoldable pub type2_fault : List ℕ → ℕ → ℕ → FirstFault
type2_fault t glyphs at = inside t (at + 8) 4 then added_fault t glyphs (at + 12) then glyph_fault t glyphs (at + 14)

-- axis and three Fixed
unfoldable pub type4_fault : List ℕ → ℕ → FirstFault
type4_fault t at = inside t (at + 8) 4 then inside t (at + 12) 4 then inside t (at + 16) 4 then inside t (at + 20) 4

-- flags, of which any value will do, and a glyph
unfoldable pub type5_fault : List ℕ → ℕ → ℕ → FirstFault
type5_fault t glyphs at = inside t (at + 8) 2 then glyph_fault t glyphs (at + 10)

-- the data of a type, 0 to 5
unfoldable pub data_fault : List ℕ → ℕ → ℕ → ℕ → FirstFault
data_fault t glyphs at ty =
    cond (eqb ty 0) (type0_fault t glyphs at)
    (cond (eqb ty 1) (glyph_fault t glyphs (at + 8))
    (cond (eqb ty 2) (type2_fault t glyphs at)
    (cond (eqb ty 3) Clear
    (cond (eqb ty 4) (type4_fault t at)
    (type5_fault t glyphs at)))))

-- how many bytes of data a type has, type 0's glyphs left out
abbrev pub data_size : ℕ → ℕ
data_size ty = cond (eqb ty 0) 12 (cond (eqb ty 1) 2 (cond (eqb ty 2) 8 (cond (eqb ty 3) 0 (cond (eqb ty 4) 16 4))))

unfoldable pub length_fault : List ℕ → ℕ → FirstFault
length_fault t at =
    inside t (at + 4) 4
    then rule (eqb (u32_at t (at + 4) % 4) 0) BadActions (at + 4)
    then rule (leb (8 + data_size (u16_at t (at + 2))) (u32_at t (at + 4))) BadActions (at + 4)

-- class, type, length, data
unfoldable pub action_fault : List ℕ → ℕ → ℕ → FirstFault
action_fault t glyphs at =
    inside t at 2
    then rule (leb (u16_at t at) 127) BadActions at
    then inside t (at + 2) 2
    then rule (leb (u16_at t (at + 2)) 5) BadActions (at + 2)
    then length_fault t at
    then data_fault t glyphs at (u16_at t (at + 2))

-- n actions from `at` on; the next one begins where the length ends
abbrev pub actions_fault : List ℕ → ℕ → ℕ → ℕ → FirstFault
actions_fault t glyphs n at = each (action_fault t glyphs) (λ p. p + u32_at t (p + 4)) n at

unfoldable pub list_fault : List ℕ → ℕ → ℕ → FirstFault
list_fault t glyphs at =
    inside t at 4
    then rule (leb (u32_at t at) 64) BadActions at
    then actions_fault t glyphs (u32_at t at) (at + 4)
