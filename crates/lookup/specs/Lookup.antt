-- The first fault of the lookup at an offset of the table, for a font of `glyphs` glyphs (document 01, "The table", the lookup's passage): its
-- format, then its units, all of them, and then its values, for glyphs upward.
use Rattle.std.specs.Prelude.{ℕ, ◌+◌, List, cond, eqb}
use Rattle.fields.specs.declared.Refusal.TheVariants.{BadLookup}
use Rattle.fields.specs.Faults.{FirstFault}
use Rattle.fields.specs.Faults.{Bad}
use Rattle.fields.specs.Field.{u16_at}
use Rattle.fields.specs.Faults.{◌then◌, rule, inside}
use Rattle.lookup.specs.Units.{unit_size, units_fault, array_fault, arrays_fault, glyphs_below}

-- formats 2, 4 and 6: unit_size, nUnits, and the units that are counted; the three search fields between them are not read
unfoldable pub counted_fault : List ℕ → ℕ → ℕ → FirstFault
counted_fault t format at =
    inside t (at + 2) 2
    then rule (eqb (u16_at t (at + 2)) (unit_size format)) BadLookup (at + 2)
    then inside t (at + 4) 2
    then units_fault t format (u16_at t (at + 4)) (at + 12) 0

-- format 4: the units, and then their arrays
unfoldable pub segments_fault : List ℕ → ℕ → ℕ → FirstFault
segments_fault t glyphs at = counted_fault t 4 at then arrays_fault t glyphs at (u16_at t (at + 4)) (at + 12)

-- format 8: first, count, values
unfoldable pub trimmed_fault : List ℕ → ℕ → ℕ → FirstFault
trimmed_fault t glyphs at =
    inside t (at + 2) 2
    then inside t (at + 4) 2
    then array_fault t (glyphs_below glyphs (u16_at t (at + 2)) (u16_at t (at + 2) + u16_at t (at + 4))) (at + 6)

-- what follows the format
unfoldable pub format_fault : List ℕ → ℕ → ℕ → ℕ → FirstFault
format_fault t glyphs at format =
    cond (eqb format 0) (array_fault t glyphs (at + 2))
    (cond (eqb format 2) (counted_fault t 2 at)
    (cond (eqb format 4) (segments_fault t glyphs at)
    (cond (eqb format 6) (counted_fault t 6 at)
    (cond (eqb format 8) (trimmed_fault t glyphs at)
    (Bad BadLookup at)))))

unfoldable pub lookup_fault : List ℕ → ℕ → ℕ → FirstFault
lookup_fault t glyphs at = inside t at 2 then format_fault t glyphs at (u16_at t at)
