-- Refusal 18, of a line whose edition is neither 1 nor 2 (document 02, request 7/14), and lines by which its place among the others can be checked by eye.
use Prim.Native.Nat.{ℕ, ◌≤◌}
use mathlib.Core.Path.{◌≡◌, refl, sym, ◌∙◌}
use mathlib.Core.Logic.{◌↔◌}
use mathlib.Core.Bool.{Bool, true, false, true≢false}
use mathlib.Core.List.{List, [], ◌∷◌, ◌++◌}
use native.Mathlib.Omega.{arith}
use lib.Dec.{leb}
use lib.IntN.{pos}
use lib.ListN.{length}
use borrow.Author.Tests.{leb-true, le-leb}
use Rattle.fields.specs.declared.Refusal.TheVariants.{UnequalLengths, LongLine, UnknownEdition, PointSize, Advances, UnknownGlyph, EndlessWalk, StageTotal, ShortRoom}
use Rattle.fields.specs.Faults.{FirstFault}
use Rattle.fields.specs.Faults.{Bad}
use Rattle.fields.specs.Field.{u16_at, u32_at}
use Rattle.fields.specs.Faults.{earlier, rule, inside}
use Rattle.fields.proofs.Laws.{rule-holds, rule-clear, rule-fails}
use Rattle.fields.specs.Walk.{walk}
use Rattle.encoding.specs.Codes.{All}
use Rattle.units.specs.Fixed.{fixed_size}
use Rattle.units.specs.Flags.{width_flags}
use Rattle.lookup.specs.Find.{value_from, value_of}
use Rattle.lookup.specs.Lookup.{format_fault, lookup_fault}
use Rattle.cluster.specs.Faults.{pair_class, pair_class_fault, grow_fault, shrink_fault, flags_fault, pair_fault, cluster_fault}
use Rattle.lookup_targets.specs.Values.{place_fault, target_fault, values_fault}
use Rattle.table.specs.Table.{Accepted, present, header_fault, offsets_fault, machine_part, action_part, direction_fault, table_fault}
use Rattle.table_laws.specs.Order.{NoFault}
use Rattle.table_laws.proofs.Faults.{rule-bad}
use Rattle.line_rule.specs.Line.{Line, known_edition}
use Rattle.line_call.specs.Justified.{Lent, side_for, lengths_of, work_tests, room_test, refuses, worked_fault, line_fault, justified}
use Rattle.line_input.specs.Input.{equal_lengths, good_sizes}
use Rattle.line_call.specs.Settle.{lent_by}
use Rattle.line_laws.specs.Bars.{OneLength, KnownEdition}
use Rattle.line_laws.proofs.Tests.{lengths-are, edition-is}
use Rattle.line_laws.proofs.Refusals.{Spares, table-spares, rule-spares, only-first, first-after, call-refused}
use Rattle.line_laws.proofs.Columns.{one_pair, text_line, room}

module _ (t : List ℕ) (n : ℕ) (l : Line) (b : Lent) where
  -- REFUSAL 18 exactly when the table is accepted, nothing else before it bars the line, and its edition is neither 1 nor 2
  pub edition-barred : ((justified t n l b).answer ≡ refuses 18 0) ↔ (Accepted t n × OneLength l b × (length l.glyphs ≤ 1024) × (KnownEdition l.edition → ⊥))
  unfolding Accepted
  edition-barred = (
    λ e. refused (only-first ahead named behind spared spared-behind ((call-refused t n l b UnknownEdition 0).0 e)),
    λ h. (call-refused t n l b UnknownEdition 0).1 (first-after ahead named behind (free h.0 h.1 h.2) (rule-fails UnknownEdition 0 (unknown (known_edition l.edition) refl h.3))),
  )
    where
      ahead : List FirstFault
      ahead = table_fault t n ∷ rule (equal_lengths l (lengths_of b)) UnequalLengths 0 ∷ rule (leb (length l.glyphs) 1024) LongLine 0 ∷ []

      named : FirstFault
      named = rule (known_edition l.edition) UnknownEdition 0

      behind : List FirstFault
      behind = rule (good_sizes l.sizes) PointSize 0 ∷ (work_tests (side_for t n l) n l ++ (room_test (side_for t n l) l (length b.verdicts) ∷ []))

      spared : All (Spares UnknownEdition) ahead
      spared = (table-spares t n (omega arith), (rule-spares UnequalLengths _ refl, (rule-spares LongLine _ refl, tt)))

      spared-behind : All (Spares UnknownEdition) behind
      spared-behind = (rule-spares PointSize _ refl, (rule-spares Advances _ refl, (rule-spares UnknownGlyph _ refl, (rule-spares EndlessWalk _ refl, (rule-spares StageTotal _ refl, (rule-spares ShortRoom _ refl, tt))))))

      free : Accepted t n → OneLength l b → length l.glyphs ≤ 1024 → NoFault ahead
      free ok one short = (ok, (rule-clear UnequalLengths 0 ((lengths-are l b).1 one), (rule-clear LongLine 0 (le-leb _ _ short), tt)))

      unknown : (known : Bool) → known_edition l.edition ≡ known → (KnownEdition l.edition → ⊥) → known_edition l.edition ≡ false
      unknown true e h = absurd (h ((edition-is l.edition).0 e))
      unknown false e h = e

      refused : NoFault ahead × (named ≡ Bad UnknownEdition 0) → Accepted t n × OneLength l b × (length l.glyphs ≤ 1024) × (KnownEdition l.edition → ⊥)
      refused ((ok, (p9, (p10, _))), q) = (
        ok,
        (lengths-are l b).0 (rule-holds _ UnequalLengths 0 p9),
        leb-true _ _ (rule-holds _ LongLine 0 p10),
        λ known. true≢false (sym ((edition-is l.edition).1 known) ∙ (rule-bad _ UnknownEdition UnknownEdition 0 0 q).0),
      )

-- ---- lines of one table

-- an empty line, whose gap is 0; ahead of 11, a size of 0; after 9, no advance for the glyph
pub in-no-edition :
    (justified one_pair 1 (text_line 0 [] [] [] (pos 0)) (lent_by [] [] [] []) ≡ record { answer = refuses 18 0; lent = lent_by [] [] [] [] })
    × (justified one_pair 1 (text_line 3 (0 ∷ []) (0 ∷ []) (pos 100 ∷ []) (pos 100)) room ≡ record { answer = refuses 18 0; lent = room })
    × (justified one_pair 1 (text_line 3 (0 ∷ []) (0 ∷ []) [] (pos 100)) room ≡ record { answer = refuses 9 0; lent = room })
unfolding one_pair justified line_fault worked_fault table_fault header_fault direction_fault present offsets_fault machine_part action_part u16_at u32_at inside rule earlier walk values_fault lookup_fault format_fault place_fault target_fault value_of value_from cluster_fault pair_fault pair_class pair_class_fault grow_fault shrink_fault flags_fault fixed_size width_flags
in-no-edition = (refl, refl, refl)
