-- A run of glyphs that have a value, in a pass over the lookup at `at` that has come to `glyph` (document 01, "The table", the lookup's passage). A glyph is
-- a 16-bit number: what is said is said of glyphs, so a run past the last of them says that no glyph from `glyph` on has a value.
use Rattle.std.specs.Prelude.{None, Some}
use Rattle.std.specs.Prelude.{ℕ, ◌+◌, ◌-◌, ◌*◌, ◌≤◌, ◌<◌, ◌^◌, max, true, false, cond, ◌≡◌, List, eqb, ltb}
use Rattle.fields.specs.Field.{u16_at}
use Rattle.lookup.specs.declared.Cursor.{Cursor}
use Rattle.lookup.specs.Units.{unit_size, first_of, last_of}
use Rattle.lookup.specs.Find.{unit_count, value_from}
use Rattle.lookup.specs.Pass.{Serves}
use Rattle.lookup_runs.specs.declared.Run.{Run}

-- where the value of the first glyph of the unit at `p` stands: a field of the unit (formats 2 and 6), or the first place of the unit's array (format 4)
unfoldable pub unit_place : List ℕ → ℕ → ℕ → ℕ → ℕ
unit_place t format at p = cond (eqb format 2) (p + 4) (cond (eqb format 4) (at + u16_at t (p + 4)) (p + 2))

-- ---- the next run, from `glyph` on, where the pass stands at `c`

-- no glyph is left that has a value
abbrev pub no_run : Cursor → Run
no_run c = record { from = 65536; until = 65537; place = 0; array = false; cursor = c }

-- format 0: all glyphs that are left
abbrev pub every_run : ℕ → Cursor → ℕ → Run
every_run at c glyph = record { from = glyph; until = 65536; place = at + 2 + 2 * glyph; array = true; cursor = c }

-- format 8, its array's first glyph and count as they were read: what the array has from `from` on
unfoldable pub trimmed_from : ℕ → Cursor → ℕ → ℕ → ℕ → Run
trimmed_from at c first count from =
    cond (ltb from (first + count)) (record { from = from; until = first + count; place = at + 6 + 2 * (from - first); array = true; cursor = c }) (no_run c)

unfoldable pub trimmed_run : List ℕ → ℕ → Cursor → ℕ → Run
trimmed_run t at c glyph = trimmed_from at c (u16_at t (at + 2)) (u16_at t (at + 4)) (max (u16_at t (at + 2)) glyph)

-- formats 2, 4 and 6: the glyphs of the next unit
unfoldable pub units_run : List ℕ → ℕ → ℕ → Cursor → Run
units_run t format at c =
    cond (eqb c.left 0) (no_run c)
    (record { from = first_of t format c.at; until = last_of t c.at + 1; place = unit_place t format at c.at; array = eqb format 4; cursor = record { at = c.at + unit_size format; left = c.left - 1 } })

unfoldable pub next_run : List ℕ → ℕ → Cursor → ℕ → Run
next_run t at c glyph =
    cond (eqb (u16_at t at) 0) (every_run at c glyph)
    (cond (eqb (u16_at t at) 8) (trimmed_run t at c glyph)
    (units_run t (u16_at t at) at c))

-- ---- what a run says

-- where the value of a glyph of a run stands
abbrev pub field_in_run : Run → ℕ → ℕ
field_in_run r glyph = cond r.array (r.place + 2 * (glyph - r.from)) r.place

-- the glyphs from `glyph` on and before the run have no value, those of the run have theirs, and its cursor serves those after it
pub record Follows (t : List ℕ) (at glyph : ℕ) (r : Run) : Type 0 where
  pub begins : glyph ≤ r.from
  pub more : r.from < r.until
  pub near : r.place < 2 ^ 41
  pub none : (g : ℕ) → glyph ≤ g → g < r.from → g < 2 ^ 16 → value_from t at g (unit_count t at) (at + 12) ≡ None
  pub some : (g : ℕ) → r.from ≤ g → g < r.until → g < 2 ^ 16 → value_from t at g (unit_count t at) (at + 12) ≡ Some (u16_at t (field_in_run r g))
  pub serves : Serves t at r.until r.cursor
