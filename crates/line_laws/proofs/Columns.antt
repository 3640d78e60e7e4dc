-- A line that is answered, in each edition, under a narrower and a wider target, one of which shrinks it and one of which stretches it, and in edition 2 with a remainder
-- either way: `never_back` and `limits-full` do not speak of nothing.
use Prim.Native.Nat.{ℕ}
use mathlib.Core.Path.{◌≡◌, refl}
use mathlib.Core.Bool.{true}
use mathlib.Core.List.{List, [], ◌∷◌}
use lib.IntN.{ℤ, pos, neg_ℤ}
use Rattle.fields.specs.Field.{u16_at, u32_at}
use Rattle.fields.specs.Faults.{earlier, rule, inside}
use Rattle.fields.specs.Walk.{walk}
use Rattle.encoding.specs.Upto.{from}
use Rattle.types.specs.declared.Direction.TheVariants.{Horizontal}
use Rattle.units.specs.Fixed.{fixed_size}
use Rattle.units.specs.Flags.{width_flags}
use Rattle.meaning.specs.Meaning.{empty_side}
use Rattle.lookup.specs.Find.{value_from, value_of}
use Rattle.lookup.specs.Lookup.{format_fault, lookup_fault}
use Rattle.cluster.specs.Faults.{pair_class, pair_class_fault, grow_fault, shrink_fault, flags_fault, pair_fault, cluster_fault}
use Rattle.cluster.specs.Pairs.{pair_at, pairs_at, cluster_at}
use Rattle.lookup_targets.specs.Values.{place_fault, target_fault, values_fault, cluster_of}
use Rattle.table.specs.Table.{present, header_fault, offsets_fault, machine_part, action_part, direction_fault, table_fault}
use Rattle.table.specs.Means.{machine_of, lists_of, side_at, direction_of, meaning_of}
use Rattle.share.specs.Share.{stages, shares, stage_moves, stage_left, moves_by, left_by}
use Rattle.share.specs.Line.{line_fits, line_moves, line_left}
use Rattle.line_rule.specs.Line.{Line, gap_of, walk_of, parts_of, before_of, after_of, remainder_of, firings, verdicts_from, verdicts_of}
use Rattle.line_rule.specs.Edges.{aimed}
use Rattle.line_call.specs.Justified.{Lent, worked_fault, line_fault, justified}
use Rattle.line_rule.specs.Shape.{line_by}
use Rattle.line_call.specs.Settle.{lent_by}
use Rattle.line_laws.specs.Edges.{Shown, left, right}

-- horizontal, at 10: no machine, no actions, clusters from 20 on, and a width lookup of format 0 whose one value is 0; the cluster at 20 has one pair, for class 0, whose
-- limits are 10 and 20 units at 1 pt for growing, 10 and 30 for shrinking. Vertical is absent.
unfoldable pub one_pair : List ℕ
one_pair =
    0 ∷ 1 ∷ 0 ∷ 0 ∷ 0 ∷ 0 ∷ 0 ∷ 10 ∷ 0 ∷ 0 ∷ 0 ∷ 0 ∷ 0 ∷ 20 ∷ 0 ∷ 0 ∷ 0 ∷ 0 ∷ 0 ∷ 0
    ∷ 0 ∷ 0 ∷ 0 ∷ 1 ∷ 0 ∷ 0 ∷ 0 ∷ 0 ∷ 0 ∷ 0 ∷ 0 ∷ 10 ∷ 0 ∷ 0 ∷ 0 ∷ 10 ∷ 0 ∷ 0 ∷ 0 ∷ 20
    ∷ 0 ∷ 0 ∷ 0 ∷ 30 ∷ 0 ∷ 0 ∷ 0 ∷ 0 ∷ []

-- a horizontal line that is a whole text: its edition, sizes, glyphs, advances and target
abbrev pub text_line : ℕ → List ℕ → List ℕ → List ℤ → ℤ → Line
text_line edition sizes glyphs advances target = line_by (record { direction = Horizontal; starts = true; ends = true; target = target; edition = edition }) sizes glyphs advances

-- one glyph of 100 units at 1 pt
abbrev pub one_glyph : ℕ → Line
one_glyph edition = text_line edition (65536 ∷ []) (0 ∷ []) (pos 100 ∷ []) (pos 100)

abbrev pub room : Lent
room = lent_by (7 ∷ []) (pos 7 ∷ []) (pos 7 ∷ []) []

-- in this edition and under this target the call answers with this remainder, and the glyph's edges are these
pub record Stands (edition : ℕ) (target from to remainder : ℤ) : Type 0 where
  pub shown : Shown one_pair 1 (aimed (one_glyph edition) target) room
  pub left_over : shown.remainder ≡ remainder
  pub left_at : left one_pair 1 (aimed (one_glyph edition) target) room 0 ≡ from
  pub right-at : right one_pair 1 (aimed (one_glyph edition) target) room 0 ≡ to

-- 40 units narrower, each side shrinks by its limit; 30 units wider, each grows by its limit; 40 units wider, edition 1 goes back with 10 units and edition 2 leaves them;
-- 50 units narrower, each side shrinks by its limit and edition 2 leaves a remainder of minus 10
pub columns : Stands 1 (pos 60) (neg_ℤ (pos 10)) (pos 60) (pos 0)
    × Stands 1 (pos 130) (pos 10) (pos 130) (pos 0)
    × Stands 1 (pos 140) (pos 13) (pos 140) (pos 0)
    × Stands 2 (pos 140) (pos 10) (pos 130) (pos 10)
    × Stands 2 (pos 50) (neg_ℤ (pos 10)) (pos 60) (neg_ℤ (pos 10))
unfolding one_pair justified line_fault worked_fault table_fault header_fault direction_fault present offsets_fault machine_part action_part u16_at u32_at inside rule earlier walk values_fault lookup_fault format_fault place_fault target_fault value_of value_from cluster_fault pair_fault pair_class pair_class_fault grow_fault shrink_fault flags_fault fixed_size width_flags pair_at pairs_at cluster_at cluster_of machine_of lists_of side_at direction_of meaning_of empty_side from stages shares stage_moves stage_left moves_by left_by line_fits line_moves line_left gap_of walk_of parts_of before_of after_of remainder_of verdicts_from verdicts_of firings
columns = (
  record { shown = record { remainder = pos 0; entries = 0; verdicts = 0; answer = refl }; left_over = refl; left_at = refl; right-at = refl },
  record { shown = record { remainder = pos 0; entries = 0; verdicts = 0; answer = refl }; left_over = refl; left_at = refl; right-at = refl },
  record { shown = record { remainder = pos 0; entries = 0; verdicts = 0; answer = refl }; left_over = refl; left_at = refl; right-at = refl },
  record { shown = record { remainder = pos 10; entries = 0; verdicts = 0; answer = refl }; left_over = refl; left_at = refl; right-at = refl },
  record { shown = record { remainder = neg_ℤ (pos 10); entries = 0; verdicts = 0; answer = refl }; left_over = refl; left_at = refl; right-at = refl },
)
