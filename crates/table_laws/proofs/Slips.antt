-- Small tables with something in them, read out: width value 0 is an offset and action value 0 is none; a glyph that the class table does not cover is class 1 below N
-- and has no class at N and past it.
use Rattle.fields.specs.Faults.{earlier}
use mathlib.Core.Path.{◌≡◌, refl}
use Rattle.fields.specs.declared.Refusal.TheVariants.{BadActions}
use Rattle.fields.specs.Faults.{Bad}
use Rattle.fields.specs.Field.{u16_at, u32_at}
use Rattle.fields.specs.Faults.{◌then◌, rule, inside}
use Rattle.fields.specs.Walk.{walk}
use Rattle.units.specs.Fixed.{fixed_size}
use Rattle.units.specs.Flags.{width_flags}
use Rattle.encoding.specs.Upto.{from}
use Rattle.types.specs.declared.Direction.TheVariants.{Horizontal}
use Rattle.meaning.specs.Ask.{sizes, class, cell, width, action, along, nothing, number, both, entry, pair, ask_side, ask}
use Rattle.lookup.specs.Units.{unit_size, first_of, single_fault, unit_fault}
use Rattle.lookup.specs.Find.{covers, unit_value, units_value, has_units, unit_count, value_from, value_of}
use Rattle.lookup.specs.Lookup.{counted_fault, format_fault, lookup_fault}
use Rattle.cluster.specs.Faults as cluster
use Rattle.cluster.specs.Pairs.{pair_at, pairs_at, cluster_at}
use Rattle.actions.specs.Faults.{list_fault}
use Rattle.machine.specs.Cells.{class_at, entry_at, cell_at}
use Rattle.machine.specs.Rows.{entry_fault, cell_fault, row_fault, raised, raised_by, fault_from, count_from, unless, row_count}
use Rattle.machine.specs.Machine.{head_fault, class_fault, class_table_fault, machine_fault}
use Rattle.lookup_targets.specs.Values.{target_fault, values_fault, cluster_of, list_of}
use Rattle.table.specs.Table.{present, header_fault, offsets_fault, machine_part, action_part, direction_fault, table_fault, Accepted}
use Rattle.table.specs.Means.{cell_by, machine_at, machine_of, lists_of, side_at, direction_of, meaning_of}
use Rattle.table_laws.specs.Samples.{zero_table, machine_table}

-- ---- values of 0

-- the table is accepted with one glyph
pub zero-accepted : Accepted zero_table 1
unfolding zero_table Accepted table_fault header_fault direction_fault present offsets_fault machine_part action_part u16_at u32_at inside rule earlier walk values_fault lookup_fault format_fault counted_fault unit_size unit_fault single_fault target_fault value_of value_from unit_count has_units units_value covers first_of unit_value cluster.cluster_fault cluster.pair_fault cluster.pair_class_fault cluster.grow_fault cluster.shrink_fault cluster.flags_fault cluster.pair_class fixed_size
zero-accepted = refl

-- the value 0 gives glyph 0 a cluster: its one record, of class 5
pub zero-width : ask (meaning_of zero_table 1) (along Horizontal (width 0 5))
    ≡ pair (record {
      class = 5;
      before = record { grow = 65536; shrink = 65536 };
      after = record { grow = 0; shrink = 0 };
      flags = record { grow = 0x1001; shrink = 2 };
    })
unfolding zero_table u16_at u32_at ask ask_side meaning_of direction_of side_at cluster_of from value_of value_from unit_count has_units cluster_at pairs_at pair_at cluster.pair_class fixed_size width_flags
zero-width = refl

-- the value 0 gives it no action; what stands at pcTableOffset is no list, so whoever took the value for an offset would refuse the table
pub zero-no-list : list_fault zero_table 1 48 ≡ Bad BadActions 48
unfolding zero_table u16_at u32_at inside rule earlier list_fault
zero-no-list = refl

pub zero-action : ask (meaning_of zero_table 1) (along Horizontal (action 0 0)) ≡ nothing
unfolding zero_table u16_at u32_at ask ask_side meaning_of direction_of side_at lists_of list_of from value_of value_from unit_count has_units units_value covers first_of unit_value
zero-action = refl

-- ---- classes

-- the table is accepted with two glyphs
pub class-accepted : Accepted machine_table 2
unfolding machine_table Accepted table_fault header_fault direction_fault present offsets_fault machine_part action_part u16_at u32_at inside rule earlier walk values_fault lookup_fault format_fault counted_fault unit_size target_fault value_of value_from unit_count has_units units_value machine_fault head_fault class_table_fault class_fault entry_fault cell_fault row_fault raised raised_by fault_from cell_at entry_at
class-accepted = refl

-- glyph 0 is not covered: class 1; glyph 1 has the class of its byte; the font has no glyph 2
pub class-uncovered : ask (meaning_of machine_table 2) (along Horizontal (class 0)) ≡ number 1
unfolding machine_table u16_at ask ask_side meaning_of direction_of side_at machine_of machine_at from class_at
class-uncovered = refl

pub class-covered : ask (meaning_of machine_table 2) (along Horizontal (class 1)) ≡ number 2
unfolding machine_table u16_at ask ask_side meaning_of direction_of side_at machine_of machine_at from class_at
class-covered = refl

pub class-past : ask (meaning_of machine_table 2) (along Horizontal (class 2)) ≡ nothing
unfolding machine_table u16_at ask ask_side meaning_of direction_of side_at machine_of machine_at from class_at
class-past = refl

-- the row count is 2, for all cells lead to row 1
pub class-sizes : ask (meaning_of machine_table 2) (along Horizontal sizes) ≡ both 2 4
unfolding machine_table u16_at ask ask_side meaning_of direction_of side_at machine_of machine_at inside rule earlier walk entry_fault cell_fault row_fault raised raised_by fault_from count_from unless row_count cell_at entry_at
class-sizes = refl

-- a cell: the new row's number and the flags
pub class-cell : ask (meaning_of machine_table 2) (along Horizontal (cell 1 3)) ≡ entry (record { row = 1; flags = 0x8001 })
unfolding machine_table u16_at ask ask_side meaning_of direction_of side_at machine_of machine_at inside rule earlier walk entry_fault cell_fault row_fault raised raised_by fault_from count_from unless row_count cell_at cell_by entry_at from
class-cell = refl
