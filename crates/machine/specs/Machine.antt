-- The first fault of a machine (document 01, "The table", Machine; refusals 4 and 7): its header, the glyphs' classes upward, the rows upward.
-- `here` is the place after the 8-byte header, which is not read.
use Rattle.std.specs.Prelude.{ℕ, ◌+◌, ◌-◌, min, List, get_or, leb, ltb}
use Rattle.fields.specs.declared.Refusal.TheVariants.{BadMachine}
use Rattle.fields.specs.Faults.{FirstFault}
use Rattle.fields.specs.Field.{u16_at}
use Rattle.fields.specs.Faults.{◌then◌, rule, inside}
use Rattle.fields.specs.Walk.{each}
use Rattle.machine.specs.Cells.{class_count, class_table}
use Rattle.machine.specs.Rows.{rows_fault}

-- a class count of 4 to 255, then the three offsets, of any value
unfoldable pub head_fault : List ℕ → ℕ → FirstFault
head_fault t here =
    inside t here 2
    then rule (leb 4 (class_count t here)) BadMachine here
    then rule (leb (class_count t here) 255) BadMachine here
    then inside t (here + 2) 2
    then inside t (here + 4) 2
    then inside t (here + 6) 2

-- the class byte at `at`: below the class count
unfoldable pub class_fault : List ℕ → ℕ → ℕ → FirstFault
class_fault t here at = inside t at 1 then rule (ltb (get_or t at 0) (class_count t here)) BadMachine at

-- `n` class bytes from `at` on
abbrev pub classes_fault : List ℕ → ℕ → ℕ → ℕ → FirstFault
classes_fault t here n at = each (class_fault t here) (λ p. p + 1) n at

-- how many of `count` glyphs, of which the first is `first`, are below `glyphs`
abbrev pub covered : ℕ → ℕ → ℕ → ℕ
covered glyphs first count = min count (glyphs - first)

-- the class table: first glyph, count, and a byte for each glyph below `glyphs`
unfoldable pub class_table_fault : List ℕ → ℕ → ℕ → FirstFault
class_table_fault t glyphs here =
    inside t (class_table t here) 2
    then inside t (class_table t here + 2) 2
    then classes_fault t here (covered glyphs (u16_at t (class_table t here)) (u16_at t (class_table t here + 2))) (class_table t here + 4)

unfoldable pub machine_fault : List ℕ → ℕ → ℕ → FirstFault
machine_fault t glyphs here = head_fault t here then class_table_fault t glyphs here then rows_fault t here
