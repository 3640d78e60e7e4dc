-- A line of equal sizes answers as before (document 02, request 5/14).
use Prim.Native.Nat.{ℕ, zero, suc, ◌<◌}
use mathlib.Core.Path.{◌≡◌, refl, sym, ap, ◌∙◌}
use mathlib.Core.Bool.{Bool, true, false, ◌&&◌}
use mathlib.Core.Option.{Option, none, some}
use mathlib.Core.List.{List, [], ◌∷◌, ◌++◌, map}
use native.Mathlib.Omega.{arith}
use lib.Dec.{leb}
use lib.IntN.{ℤ, ◌+ℤ◌}
use lib.ListN.{length, get_or, drop, replicate, length-replicate}
use borrow.Author.Tests.{eq-eqb}
use Rattle.fields.specs.declared.Refusal.TheVariants.{UnequalLengths, LongLine, PointSize, Advances, UnknownGlyph, EndlessWalk, StageTotal, ShortRoom}
use Rattle.std.specs.Prelude.{Ok, Err}
use Rattle.fields.specs.Faults.{FirstFault, ◌then◌, earlier, rule, first_fault}
use Rattle.types.specs.declared.Verdict.{Verdict}
use Rattle.meaning.specs.Meaning.{Machine, Side}
use Rattle.meaning.specs.Ask.{side_of}
use Rattle.share.specs.Line.{Glyph, line_fits, before_moves, after_moves, line_left, signed_of}
use Rattle.table.specs.Table.{table_fault}
use Rattle.table.specs.Means.{meaning_of}
use Rattle.class_walk.specs.Walk.{Walk}
use Rattle.line_rule.specs.Line.{gap_of, shrinks, gap_size, walk_of, has_stopped, classes_of, entries_of, record_for, part_of, parts_of, parts_for, before_of, after_of, remainder_of, firings, verdicts_from, verdicts_of}
use Rattle.line_call.specs.Justified.{Lent, lengths_of, worked_fault, line_fault, justifies, settled, justified}
use Rattle.line_input.specs.Input.{all_long, equal_lengths, good_size, good_sizes, good_advances, all_known}
use Rattle.line_laws.specs.OneSize as one
use Rattle.line_laws.specs.OneSize.{unsized}
use Rattle.line_laws.specs.AsBefore.{in_one_size, AsBefore, EmptyAsBefore}

-- ---- the line

walk_same : (m : Option Machine) (l : one.Line) → walk_of m (in_one_size l) ≡ walk_of m (unsized l)
unfolding walk_of
walk_same none l = refl
walk_same (some m) l = refl

parts_same : (s : Side) (shrink : Bool) (size : ℕ) (gs cs : List ℕ) → parts_of s shrink (replicate (length gs) size) gs cs ≡ one.parts_of s shrink size gs cs
unfolding parts_of one.parts_of
parts_same s shrink size [] cs = refl
parts_same s shrink size (g ∷ gs) [] = refl
parts_same s shrink size (g ∷ gs) (c ∷ cs) = ap (λ (l : List Glyph). part_of shrink size (record_for s g c) ∷ l) (parts_same s shrink size gs cs)

verdicts-same : (s : Side) (size place : ℕ) (gs cs : List ℕ) (bs fs : List ℤ)
    → verdicts_from s place (replicate (length gs) size) gs cs bs fs ≡ one.verdicts_from s size place gs cs bs fs
unfolding verdicts_from one.verdicts_from
verdicts-same s size place [] cs bs fs = refl
verdicts-same s size place (g ∷ gs) [] bs fs = refl
verdicts-same s size place (g ∷ gs) (c ∷ cs) [] fs = refl
verdicts-same s size place (g ∷ gs) (c ∷ cs) (b ∷ bs) [] = refl
verdicts-same s size place (g ∷ gs) (c ∷ cs) (b ∷ bs) (f ∷ fs) =
    ap (λ (l : List Verdict). firings place c size (b +ℤ f) 0 (get_or s.lists g []) ++ l) (verdicts-same s size (suc place) gs cs bs fs)

module _ (s : Side) (l : one.Line) where
  parts-for : parts_for s (in_one_size l) ≡ one.parts_for s l
  unfolding gap_of
  parts-for =
      ap (λ (w : Walk). parts_of s (shrinks (unsized l)) (replicate (length l.glyphs) l.size) l.glyphs (classes_of w)) (walk_same s.machine l)
      ∙ parts_same s (shrinks (unsized l)) l.size l.glyphs (classes_of (walk_of s.machine (unsized l)))

  before_same : before_of s (in_one_size l) ≡ one.before_of s l
  unfolding before_of one.before_of gap_of
  before_same = ap (λ (gs : List Glyph). map (signed_of (shrinks (unsized l))) (before_moves true gs (gap_size (unsized l)))) parts-for

  after_same : after_of s (in_one_size l) ≡ one.after_of s l
  unfolding after_of one.after_of gap_of
  after_same = ap (λ (gs : List Glyph). map (signed_of (shrinks (unsized l))) (after_moves true gs (gap_size (unsized l)))) parts-for

  remainder-same : remainder_of s (in_one_size l) ≡ one.remainder_of s l
  unfolding remainder_of one.remainder_of gap_of
  remainder-same = ap (λ (gs : List Glyph). signed_of (shrinks (unsized l)) (line_left true gs (gap_size (unsized l)))) parts-for

  verdicts-all : verdicts_of s (in_one_size l) ≡ one.verdicts_of s l
  unfolding verdicts_of one.verdicts_of
  verdicts-all =
      (λ i. verdicts_from s 0 (replicate (length l.glyphs) l.size) l.glyphs (classes_of (walk_same s.machine l i)) (before_same i) (after_same i))
      ∙ verdicts-same s l.size 0 l.glyphs (classes_of (walk_of s.machine (unsized l))) (one.before_of s l) (one.after_of s l)

-- ---- refusals 9 and 11

lengths-same : (l : one.Line) (lengths : List ℕ) → equal_lengths (in_one_size l) lengths ≡ one.equal_lengths l lengths
lengths-same l lengths =
    ap (λ (b : Bool). b && all_long (length l.glyphs) (length l.advances ∷ lengths)) (eq-eqb _ _ (length-replicate (length l.glyphs) l.size))

sizes-same : (size n : ℕ) → 0 < n → good_sizes (replicate n size) ≡ good_size size
sizes-same size zero h = absurd (omega arith)
sizes-same size (suc zero) h = true-last (good_size size)
  where
    true-last : (b : Bool) → (b && true) ≡ b
    true-last true = refl
    true-last false = refl
sizes-same size (suc (suc n)) h = ap (λ (b : Bool). good_size size && b) (sizes-same size (suc n) (omega arith)) ∙ twice (good_size size)
  where
    twice : (b : Bool) → (b && b) ≡ b
    twice true = refl
    twice false = refl

-- ---- the call, where the sizes are judged as the one size was

module _ (t : List ℕ) (n : ℕ) (l : one.Line) (b : Lent) (judged : good_sizes (replicate (length l.glyphs) l.size) ≡ good_size l.size) where
  abbrev side : Side
  side = side_of l.direction (meaning_of t n)

  fault-same : line_fault t n (in_one_size l) b ≡ one.line_fault t n l b
  unfolding line_fault worked_fault one.line_fault rule earlier
  fault-same = λ i.
      first_fault (
      table_fault t n
      ∷ rule (lengths-same l (lengths_of b) i) UnequalLengths 0
      ∷ rule (leb (length l.glyphs) 1024) LongLine 0
      ∷ rule (judged i) PointSize 0
      ∷ rule (good_advances (unsized l)) Advances 0
      ∷ rule (all_known n l.glyphs) UnknownGlyph 0
      ∷ rule (has_stopped (walk_same side.machine l i)) EndlessWalk 0
      ∷ rule (line_fits (parts-for side l i)) StageTotal 0
      ∷ [])
      then rule (leb (length (verdicts-all side l i)) (length b.verdicts)) ShortRoom 0

  settled_same : (f : FirstFault) → settled f side (in_one_size l) b ≡ one.settled f side l b
  settled_same (Err x) = refl
  settled_same (Ok u) = λ i.
      record {
        answer = justifies (remainder-same side l i) (entries_of (walk_same side.machine l i)) (length (verdicts-all side l i));
        lent =
            record {
              classes = classes_of (walk_same side.machine l i);
              before = before_same side l i;
              after = after_same side l i;
              verdicts = verdicts-all side l i ++ drop (length (verdicts-all side l i)) b.verdicts;
            };
      }

  same_outcome : justified t n (in_one_size l) b ≡ one.justified t n l b
  unfolding justified one.justified
  same_outcome = ap (λ (f : FirstFault). settled f side (in_one_size l) b) fault-same ∙ settled_same (one.line_fault t n l b)

-- A LINE OF EQUAL SIZES ANSWERS AS BEFORE
pub as_before : AsBefore
as_before t n l b h = same_outcome t n l b (sizes-same l.size (length l.glyphs) h)

-- and an empty line as one in a good size did
pub empty-as-before : EmptyAsBefore
empty-as-before t n l b e g = same_outcome t n l b (ap (λ (gs : List ℕ). good_sizes (replicate (length gs) l.size)) e ∙ sym g)
