-- Tables and meanings compared by hand (document 02, 6/14): a record that one table has; machines of unlike sizes; an empty list, which is none.
use Rattle.fields.specs.Faults.{earlier}
use Prim.Native.Nat.{ℕ}
use mathlib.Core.Path.{◌≡◌, refl, sym, ap}
use Rattle.std.specs.Prelude.{Option, Some}
use mathlib.Core.List.{[], ◌∷◌, ◌++◌}
use native.Mathlib.Omega.{arith}
use Rattle.fields.specs.Field.{u16_at, u32_at}
use Rattle.fields.specs.Faults.{◌then◌, rule, inside}
use Rattle.fields.specs.Walk.{walk}
use Rattle.encoding.specs.Upto.{from}
use Rattle.types.specs.declared.Direction.TheVariants.{Horizontal}
use Rattle.types.specs.declared.Pair.{Pair}
use Rattle.lookup.specs.Units.{first_of}
use Rattle.lookup.specs.Lookup.{format_fault, trimmed_fault, lookup_fault}
use Rattle.lookup.specs.Find.{covers, unit_value, units_value, has_units, unit_count, trimmed_value, value_from, value_of}
use Rattle.cluster.specs.Faults.{pair_class}
use Rattle.cluster.specs.Pairs.{pair_at, pairs_at, cluster_at}
use Rattle.actions.specs.Actions.{actions_at, list_at}
use Rattle.actions.specs.Faults.{list_fault}
use Rattle.lookup_targets.specs.Values.{target_fault, values_fault, cluster_of, list_of}
use Rattle.meaning.specs.Meaning.{empty_side}
use Rattle.meaning.specs.Discrete.{Pair-discrete}
use Rattle.table.specs.Table.{present, header_fault, offsets_fault, machine_part, action_part, direction_fault, table_fault, Accepted}
use Rattle.table.specs.Means.{machine_of, lists_of, side_at, direction_of, meaning_of}
use Rattle.table_laws.specs.Samples.{bare_table, zero_table}
use Rattle.diff_rule.specs.declared.Aspect.TheVariants.{Sizes, Width}
use Rattle.diff_rule.specs.declared.Mark.{Mark}
use Rattle.diff_rule.specs.declared.Mark.TheVariants.{Changed}
use Rattle.diff_rule.specs.Differences.{noted, through, records_differ, widths_differ, lists_differ, sides_differ, differences}
use Rattle.diff_rule.specs.Order.{numbers_of, all_numbers}
use Rattle.diff_rule.proofs.Marks.{mark-apart}
use Rattle.diff_call.specs.Calls.{differences_of}
use Rattle.diff_laws.specs.Samples.{empty_list, growing, glyph_with}

-- glyph 0 has a record of class 5 in the second table only, and then in the first only
pub record-second : all_numbers (differences_of bare_table zero_table 1) ≡ 0 ∷ 3 ∷ 2 ∷ 0 ∷ 5 ∷ []
unfolding bare_table zero_table u16_at u32_at meaning_of direction_of empty_side side_at machine_of lists_of cluster_of list_of from value_of value_from unit_count has_units units_value covers first_of unit_value cluster_at pairs_at pair_at pair_class differences_of differences sides_differ widths_differ records_differ lists_differ through all_numbers numbers_of
record-second = refl

pub record-first : all_numbers (differences_of zero_table bare_table 1) ≡ 0 ∷ 3 ∷ 1 ∷ 0 ∷ 5 ∷ []
unfolding bare_table zero_table u16_at u32_at meaning_of direction_of empty_side side_at machine_of lists_of cluster_of list_of from value_of value_from unit_count has_units units_value covers first_of unit_value cluster_at pairs_at pair_at pair_class differences_of differences sides_differ widths_differ records_differ lists_differ through all_numbers numbers_of
record-first = refl

-- of machines of 4 and of 5 classes, in which the glyph has class 1 and class 2, the sizes alone are listed; and the record
pub unlike-machines : all_numbers (differences (glyph_with 4 1 1) (glyph_with 5 2 2)) ≡ 0 ∷ 0 ∷ 0 ∷ 0 ∷ 0 ∷ 0 ∷ 3 ∷ 0 ∷ 0 ∷ 5 ∷ []
unfolding glyph_with empty_side differences sides_differ widths_differ records_differ lists_differ through all_numbers numbers_of
unlike-machines =
    ap (λ (o : Option Mark). all_numbers (noted Horizontal Sizes 0 0 (Some Changed) ++ ((((noted Horizontal Width 0 5 o ++ []) ++ []) ++ []) ++ [])))
    (sym (mark-apart Pair-discrete (growing 1) (growing 2) (λ e. let z : ◌≡◌ {A = ℕ} 1 2 = ap (λ (p : Pair). p.before.grow) e in omega arith)))

-- an empty list is none
pub empty-accepted : Accepted empty_list 1
unfolding empty_list Accepted table_fault header_fault direction_fault present offsets_fault machine_part action_part u16_at u32_at inside rule earlier walk values_fault lookup_fault format_fault trimmed_fault target_fault value_of value_from trimmed_value has_units unit_count list_fault
empty-accepted = refl

pub empty-none : differences_of bare_table empty_list 1 ≡ []
unfolding bare_table empty_list u16_at u32_at meaning_of direction_of empty_side side_at machine_of lists_of cluster_of list_of from value_of value_from trimmed_value has_units unit_count list_at actions_at differences_of differences sides_differ widths_differ records_differ lists_differ through
empty-none = refl
