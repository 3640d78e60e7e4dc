-- Refusal 11 of a line in which each glyph has its own size (document 02, request 5/14), and lines by which the sizes' use can be checked by eye.
use Prim.Native.Nat.{ℕ, zero, suc, ◌≤◌, ◌<◌}
use mathlib.Core.Path.{◌≡◌, refl, sym, ap, ◌∙◌}
use mathlib.Core.Logic.{◌⊎◌, inl, inr, ◌↔◌}
use mathlib.Core.Bool.{Bool, true, false, ◌&&◌, true≢false}
use mathlib.Core.List.{List, [], ◌∷◌, ◌++◌}
use native.Mathlib.Omega.{arith}
use native.Mathlib.Decide.{dec_lt}
use lib.Dec.{leb}
use lib.IntN.{pos}
use lib.ListN.{length, get_or}
use borrow.Author.Tests.{leb-true, le-leb}
use Rattle.fields.specs.declared.Refusal.TheVariants.{UnequalLengths, LongLine, UnknownEdition, PointSize, Advances, UnknownGlyph, EndlessWalk, StageTotal, ShortRoom}
use Rattle.fields.specs.Faults.{FirstFault}
use Rattle.fields.specs.Faults.{Bad}
use Rattle.fields.specs.Field.{u16_at, u32_at}
use Rattle.fields.specs.Faults.{earlier, rule, inside}
use Rattle.fields.proofs.Laws.{rule-holds, rule-clear, rule-fails}
use Rattle.fields.specs.Walk.{walk}
use Rattle.encoding.specs.Codes.{All}
use Rattle.encoding.specs.Upto.{from}
use Rattle.units.specs.Fixed.{fixed_size}
use Rattle.units.specs.Flags.{width_flags}
use Rattle.meaning.specs.Meaning.{empty_side}
use Rattle.lookup.specs.Find.{value_from, value_of}
use Rattle.lookup.specs.Lookup.{format_fault, lookup_fault}
use Rattle.cluster.specs.Faults.{pair_class, pair_class_fault, grow_fault, shrink_fault, flags_fault, pair_fault, cluster_fault}
use Rattle.cluster.specs.Pairs.{pair_at, pairs_at, cluster_at}
use Rattle.lookup_targets.specs.Values.{place_fault, target_fault, values_fault, cluster_of}
use Rattle.table.specs.Table.{Accepted, present, header_fault, offsets_fault, machine_part, action_part, direction_fault, table_fault}
use Rattle.table.specs.Means.{machine_of, lists_of, side_at, direction_of, meaning_of}
use Rattle.table_laws.specs.Order.{NoFault}
use Rattle.table_laws.proofs.Faults.{rule-bad}
use Rattle.share.specs.Share.{stages, shares, stage_moves, stage_left, moves_by, left_by}
use Rattle.share.specs.Line.{line_fits, line_moves, line_left}
use Rattle.line_rule.specs.Line.{Line, known_edition, gap_of, walk_of, parts_of, before_of, after_of, remainder_of, firings, verdicts_from, verdicts_of}
use Rattle.line_call.specs.Justified.{Lent, side_for, lengths_of, work_tests, room_test, justifies, refuses, worked_fault, line_fault, justified}
use Rattle.line_input.specs.Input.{equal_lengths, good_size, good_sizes}
use Rattle.line_call.specs.Settle.{lent_by}
use Rattle.line_laws.specs.Bars.{OneLength, KnownEdition, OutOfRange}
use Rattle.line_laws.proofs.Tests.{lengths-are, edition-is, size_is, sizes-are}
use Rattle.line_laws.proofs.Refusals.{Spares, table-spares, rule-spares, only-first, first-after, call-refused}
use Rattle.line_laws.proofs.Columns.{one_pair, text_line}

-- ---- refusal 11

wrong_size : (z : ℕ) → good_size z ≡ false → (z < 1) ⊎ (67108864 < z)
wrong_size zero e = inl (omega arith)
wrong_size (suc z) e = go (dec_lt 67108864 (suc z))
  where
    go : Dec (67108864 < suc z) → (suc z < 1) ⊎ (67108864 < suc z)
    go (yes h) = inr h
    go (no h) = absurd (true≢false (sym ((size_is (suc z)).1 (omega arith, omega arith)) ∙ e))

wrong-place : (zs : List ℕ) → good_sizes zs ≡ false → OutOfRange zs
wrong-place [] e = absurd (true≢false e)
wrong-place (z ∷ zs) e = go (good_size z) refl e (wrong-place zs)
  where
    go : (b : Bool) → good_size z ≡ b → (b && good_sizes zs) ≡ false → (good_sizes zs ≡ false → OutOfRange zs) → OutOfRange (z ∷ zs)
    go true q w ih = let r = ih w in record { place = suc r.place; there = omega (arith, r.there); wrong = r.wrong }
    go false q w ih = record { place = 0; there = omega arith; wrong = wrong_size z q }

wrong-sizes : (zs : List ℕ) → OutOfRange zs → good_sizes zs ≡ false
wrong-sizes zs r = go (good_sizes zs) refl
  where
    go : (b : Bool) → good_sizes zs ≡ b → b ≡ false
    go false q = refl
    go true q = absurd (against r.wrong)
      where
        against : (get_or zs r.place 0 < 1) ⊎ (67108864 < get_or zs r.place 0) → ⊥
        against (inl h) = let w = ((sizes-are zs).0 q r.place r.there).0 in omega arith
        against (inr h) = let w = ((sizes-are zs).0 q r.place r.there).1 in omega arith

module _ (t : List ℕ) (n : ℕ) (l : Line) (b : Lent) where
  -- REFUSAL 11 exactly when the table is accepted, nothing else before it bars the line, and the size of some glyph is out of range
  pub sizes-barred : ((justified t n l b).answer ≡ refuses 11 0) ↔ (Accepted t n × OneLength l b × (length l.glyphs ≤ 1024) × KnownEdition l.edition × OutOfRange l.sizes)
  unfolding Accepted
  sizes-barred = (
    λ e. refused (only-first ahead sized behind spared spared-behind ((call-refused t n l b PointSize 0).0 e)),
    λ h. (call-refused t n l b PointSize 0).1 (first-after ahead sized behind (free h.0 h.1 h.2 h.3) (rule-fails PointSize 0 (wrong-sizes l.sizes h.4))),
  )
    where
      ahead : List FirstFault
      ahead =
          table_fault t n
          ∷ rule (equal_lengths l (lengths_of b)) UnequalLengths 0
          ∷ rule (leb (length l.glyphs) 1024) LongLine 0
          ∷ rule (known_edition l.edition) UnknownEdition 0
          ∷ []

      sized : FirstFault
      sized = rule (good_sizes l.sizes) PointSize 0

      behind : List FirstFault
      behind = work_tests (side_for t n l) n l ++ (room_test (side_for t n l) l (length b.verdicts) ∷ [])

      spared : All (Spares PointSize) ahead
      spared = (table-spares t n (omega arith), (rule-spares UnequalLengths _ refl, (rule-spares LongLine _ refl, (rule-spares UnknownEdition _ refl, tt))))

      spared-behind : All (Spares PointSize) behind
      spared-behind = (rule-spares Advances _ refl, (rule-spares UnknownGlyph _ refl, (rule-spares EndlessWalk _ refl, (rule-spares StageTotal _ refl, (rule-spares ShortRoom _ refl, tt)))))

      free : Accepted t n → OneLength l b → length l.glyphs ≤ 1024 → KnownEdition l.edition → NoFault ahead
      free ok one short known = (
        ok,
        (rule-clear UnequalLengths 0 ((lengths-are l b).1 one), (rule-clear LongLine 0 (le-leb _ _ short), (rule-clear UnknownEdition 0 ((edition-is l.edition).1 known), tt))),
      )

      refused : NoFault ahead × (sized ≡ Bad PointSize 0) → Accepted t n × OneLength l b × (length l.glyphs ≤ 1024) × KnownEdition l.edition × OutOfRange l.sizes
      refused ((ok, (p9, (p10, (p18, _)))), q) = (
        ok,
        (lengths-are l b).0 (rule-holds _ UnequalLengths 0 p9),
        leb-true _ _ (rule-holds _ LongLine 0 p10),
        (edition-is l.edition).0 (rule-holds _ UnknownEdition 0 p18),
        wrong-place l.sizes (rule-bad _ PointSize PointSize 0 0 q).0,
      )

  -- so NEVER FOR AN EMPTY LINE
  pub empty-unbarred : l.glyphs ≡ [] → (justified t n l b).answer ≡ refuses 11 0 → ⊥
  empty-unbarred none e =
      let h = sizes-barred.0 e in
      let long : length l.sizes ≡ 0 = h.1.sizes ∙ ap (λ (gs : List ℕ). length gs) none in
      let there = h.4.there in
      omega arith

-- ---- lines of one table, whose glyph 0 has one record: 10 and 20 units at 1 pt for growing

abbrev lent_two : Lent
lent_two = lent_by (7 ∷ 7 ∷ []) (pos 7 ∷ pos 7 ∷ []) (pos 7 ∷ pos 7 ∷ []) []

-- at 1 and 2 pt, by as much as all sides may grow, the second glyph's move twice as far; a size of 0 is refused under a deleted glyph too
pub in-two-sizes :
    (justified one_pair 1 (text_line 1 (65536 ∷ 131072 ∷ []) (0 ∷ 0 ∷ []) (pos 100 ∷ pos 100 ∷ []) (pos 290)) lent_two
    ≡ record { answer = justifies (pos 0) 0 0; lent = lent_by (0 ∷ 0 ∷ []) (pos 10 ∷ pos 20 ∷ []) (pos 20 ∷ pos 40 ∷ []) [] })
    × (justified one_pair 1 (text_line 1 (65536 ∷ 0 ∷ []) (0 ∷ 0xFFFF ∷ []) (pos 100 ∷ pos 0 ∷ []) (pos 100)) lent_two ≡ record { answer = refuses 11 0; lent = lent_two })
unfolding one_pair justified line_fault worked_fault table_fault header_fault direction_fault present offsets_fault machine_part action_part u16_at u32_at inside rule earlier walk values_fault lookup_fault format_fault place_fault target_fault value_of value_from cluster_fault pair_fault pair_class pair_class_fault grow_fault shrink_fault flags_fault fixed_size width_flags pair_at pairs_at cluster_at cluster_of machine_of lists_of side_at direction_of meaning_of empty_side from stages shares stage_moves stage_left moves_by left_by line_fits line_moves line_left gap_of walk_of parts_of before_of after_of remainder_of verdicts_from verdicts_of firings
in-two-sizes = (refl, refl)
