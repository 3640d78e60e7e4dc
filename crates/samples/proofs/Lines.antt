-- A line of each shape that the cases speak of, so that none of them speaks of nothing.
use Prim.Native.Nat.{ℕ}
use mathlib.Core.Path.{refl}
use mathlib.Core.Bool.{true, false}
use mathlib.Core.List.{List, [], ◌∷◌}
use lib.IntN.{pos}
use Rattle.fields.specs.Field.{u16_at, u32_at}
use Rattle.fields.specs.Faults.{earlier, rule, inside}
use Rattle.fields.specs.Walk.{walk}
use Rattle.encoding.specs.Upto.{from}
use Rattle.types.specs.declared.Direction.TheVariants.{Horizontal, Vertical}
use Rattle.lookup.specs.Units.{unit_size}
use Rattle.lookup.specs.Find.{units_value, has_units, unit_count, value_from, value_of}
use Rattle.meaning.specs.Meaning.{empty_side}
use Rattle.lookup.specs.Lookup.{counted_fault, format_fault, lookup_fault}
use Rattle.machine.specs.Cells.{class_at, entry_at, cell_at}
use Rattle.machine.specs.Rows.{entry_fault, cell_fault, row_fault, raised, raised_by, fault_from, count_from, unless, row_count}
use Rattle.machine.specs.Machine.{head_fault, class_fault, class_table_fault, machine_fault}
use Rattle.lookup_targets.specs.Values.{target_fault, values_fault}
use Rattle.table.specs.Table.{present, header_fault, offsets_fault, machine_part, action_part, direction_fault, table_fault, Accepted}
use Rattle.table.specs.Means.{cell_by, machine_at, machine_of, side_at, direction_of, meaning_of}
use Rattle.line_rule.specs.Line.{Line}
use Rattle.line_call.specs.Justified.{Lent}
use Rattle.line_rule.specs.Shape.{line_by}
use Rattle.line_call.specs.Settle.{lent_by}
use Rattle.samples.specs.Samples.{Proper, Shaped, empty, stuck, twelve}

-- horizontal, at 10: a machine at 22, no actions, and a width lookup of format 6 without units, whose search fields are not read; the machine has 4 classes, a class
-- table for glyph 0 alone, two rows, and one entry, which every cell has: it leads to row 1 and stays. Vertical is absent.
unfoldable one_entry : List ℕ
one_entry =
    0 ∷ 1 ∷ 0 ∷ 0 ∷ 0 ∷ 0 ∷ 0 ∷ 10 ∷ 0 ∷ 0 ∷ 0 ∷ 22 ∷ 0 ∷ 0 ∷ 0 ∷ 0 ∷ 0 ∷ 6 ∷ 0 ∷ 4
    ∷ 0 ∷ 0 ∷ 0 ∷ 0 ∷ 0 ∷ 0 ∷ 0 ∷ 0 ∷ 0 ∷ 0 ∷ 0 ∷ 4 ∷ 0 ∷ 8 ∷ 0 ∷ 13 ∷ 0 ∷ 21 ∷ 0 ∷ 0
    ∷ 0 ∷ 1 ∷ 2 ∷ 0 ∷ 0 ∷ 0 ∷ 0 ∷ 0 ∷ 0 ∷ 0 ∷ 0 ∷ 0 ∷ 17 ∷ 0x40 ∷ 0 ∷ []

accepted : Accepted one_entry 1
unfolding one_entry Accepted table_fault header_fault direction_fault present offsets_fault machine_part action_part u16_at u32_at inside rule earlier walk values_fault lookup_fault format_fault counted_fault unit_size target_fault value_of value_from unit_count has_units units_value machine_fault head_fault class_table_fault class_fault entry_fault cell_fault row_fault raised raised_by fault_from cell_at entry_at
accepted = refl

-- along the vertical
pub empty-line : (t : List ℕ) × (n : ℕ) × (l : Line) × (b : Lent) × Proper t n l b × Shaped (empty (pos 4)) t n l
unfolding one_entry u16_at meaning_of direction_of empty_side
empty-line = (
  one_entry,
  1,
  line_by (record { direction = Vertical; starts = true; ends = true; target = pos 4; edition = 1 }) [] [] [],
  lent_by [] [] [] [],
  record { accepted = accepted; lengths = refl; edition = refl; sizes = refl; advances = refl; known = refl },
  record { no-glyph = refl; no-machine = refl; has-target = refl },
)

-- along the horizontal
pub stuck-line : (t : List ℕ) × (n : ℕ) × (l : Line) × (b : Lent) × Proper t n l b × Shaped stuck t n l
unfolding one_entry u16_at meaning_of direction_of side_at machine_of machine_at inside rule earlier walk entry_fault cell_fault row_fault raised raised_by fault_from count_from unless row_count cell_at cell_by entry_at class_at from
stuck-line = (
  one_entry,
  1,
  line_by (record { direction = Horizontal; starts = false; ends = true; target = pos 4; edition = 1 }) (twelve ∷ []) (0 ∷ []) (pos 0 ∷ []),
  lent_by (0 ∷ []) (pos 0 ∷ []) (pos 0 ∷ []) [],
  record { accepted = accepted; lengths = refl; edition = refl; sizes = refl; advances = refl; known = refl },
  record { glyph = 0; machine = _; one-glyph = refl; not_first = refl; has-machine = refl; entry-stays = refl; leads-back = refl },
)
