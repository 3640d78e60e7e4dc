-- Small tables with a fault, each worked out by hand: its number, and the offset of the field (document 02, 4/14).
use Rattle.fields.specs.Faults.{earlier}
use mathlib.Core.Path.{◌≡◌, refl}
use Rattle.fields.specs.Field.{u16_at, u32_at}
use Rattle.fields.specs.Faults.{◌then◌, rule, inside}
use Rattle.fields.specs.Walk.{walk}
use Rattle.answers.specs.Says.{barred, judged_by}
use Rattle.lookup.specs.Units.{unit_size, range_fault, unit_fault}
use Rattle.lookup.specs.Lookup.{counted_fault, trimmed_fault, format_fault, lookup_fault}
use Rattle.lookup.specs.Find.{has_units, trimmed_value, value_from, value_of}
use Rattle.units.specs.Fixed.{fixed_size}
use Rattle.cluster.specs.Faults.{pair_class, pair_class_fault, grow_fault, shrink_fault, pair_fault, cluster_fault}
use Rattle.actions.specs.Faults.{length_fault, count_fault, type0_fault, data_fault, action_fault, list_fault}
use Rattle.machine.specs.Rows.{entry_fault, cell_fault, row_fault, fault_from}
use Rattle.machine.specs.Machine.{head_fault, class_table_fault, machine_fault}
use Rattle.lookup_targets.specs.Values.{target_fault, values_fault}
use Rattle.table_laws.specs.Samples.{cut_table, odd_format, empty_cluster, few_classes, long_list, low_unit, far_shrink, row_between, tight_ligature, far_action, half_field}
use Rattle.table.specs.Table.{present, header_fault, offsets_fault, machine_part, action_part, direction_fault, table_fault}

pub cut-at-12 : judged_by (table_fault cut_table 1) ≡ barred 4 12
unfolding cut_table table_fault header_fault direction_fault present offsets_fault inside rule earlier u16_at u32_at
cut-at-12 = refl

pub format-at-16 : judged_by (table_fault odd_format 1) ≡ barred 5 16
unfolding odd_format table_fault header_fault direction_fault present offsets_fault machine_part values_fault lookup_fault format_fault inside rule earlier u16_at u32_at
format-at-16 = refl

pub count-at-24 : judged_by (table_fault empty_cluster 1) ≡ barred 6 24
unfolding empty_cluster table_fault header_fault direction_fault present offsets_fault machine_part values_fault target_fault lookup_fault format_fault trimmed_fault cluster_fault walk value_of value_from trimmed_value has_units inside rule earlier u16_at u32_at
count-at-24 = refl

pub classes-at-24 : judged_by (table_fault few_classes 1) ≡ barred 7 24
unfolding few_classes table_fault header_fault direction_fault present offsets_fault machine_part machine_fault head_fault inside rule earlier u16_at u32_at
classes-at-24 = refl

pub count-at-30 : judged_by (table_fault long_list 1) ≡ barred 8 30
unfolding long_list table_fault header_fault direction_fault present offsets_fault machine_part action_part values_fault target_fault lookup_fault format_fault trimmed_fault list_fault walk value_of value_from trimmed_value has_units inside rule earlier u16_at u32_at
count-at-30 = refl

-- fields that are not the first of their part

pub first-at-36 : judged_by (table_fault low_unit 1) ≡ barred 5 36
unfolding low_unit table_fault header_fault direction_fault present offsets_fault machine_part values_fault target_fault lookup_fault format_fault counted_fault unit_fault range_fault unit_size walk inside rule earlier u16_at u32_at
first-at-36 = refl

pub shrink-at-44 : judged_by (table_fault far_shrink 1) ≡ barred 6 44
unfolding far_shrink table_fault header_fault direction_fault present offsets_fault machine_part values_fault target_fault lookup_fault format_fault trimmed_fault cluster_fault pair_fault pair_class_fault pair_class grow_fault shrink_fault fixed_size walk value_of value_from trimmed_value has_units inside rule earlier u16_at u32_at
shrink-at-44 = refl

pub row-at-42 : judged_by (table_fault row_between 1) ≡ barred 7 42
unfolding row_between table_fault header_fault direction_fault present offsets_fault machine_part machine_fault head_fault class_table_fault fault_from row_fault cell_fault entry_fault walk inside rule earlier u16_at u32_at
row-at-42 = refl

pub size-at-52 : judged_by (table_fault tight_ligature 1) ≡ barred 8 52
unfolding tight_ligature table_fault header_fault direction_fault present offsets_fault machine_part action_part values_fault target_fault lookup_fault format_fault trimmed_fault list_fault action_fault length_fault data_fault type0_fault count_fault walk value_of value_from trimmed_value has_units inside rule earlier u16_at u32_at
size-at-52 = refl

-- a field past 32 bits, and one that begins inside
pub next-past-32-bits : judged_by (table_fault far_action 1) ≡ barred 4 4294967326
unfolding far_action table_fault header_fault direction_fault present offsets_fault machine_part action_part values_fault target_fault lookup_fault format_fault trimmed_fault list_fault action_fault length_fault data_fault walk value_of value_from trimmed_value has_units inside rule earlier u16_at u32_at
next-past-32-bits = refl

pub half-at-12 : judged_by (table_fault half_field 1) ≡ barred 4 12
unfolding half_field table_fault header_fault direction_fault present offsets_fault machine_part inside rule earlier u16_at u32_at
half-at-12 = refl
