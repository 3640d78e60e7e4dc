-- The tests of a line's refusals say what their plain words say.
use Prim.Native.Nat.{ℕ, zero, suc, ◌≤◌, ◌<◌}
use mathlib.Core.Path.{◌≡◌, refl, sym, ap, ap₂, ◌∙◌}
use mathlib.Core.Logic.{◌⊎◌, inl, inr, ◌↔◌}
use mathlib.Core.Bool.{Bool, true, false, ◌&&◌, ◌||◌, false≢true}
use mathlib.Core.List.{List, [], ◌∷◌, map}
use native.Mathlib.Omega.{arith}
use lib.Dec.{leb, ltb, eqb}
use lib.IntN.{ℤ, pos, negsuc, nat_abs, ◌+ℤ◌}
use lib.ListN.{length}
use borrow.Author.Tests.{leb-true, le-leb, eqb-true, eq-eqb, lt-ltb}
use Rattle.share.specs.Share.{total, stages, most_total}
use Rattle.share.specs.Line.{Glyph, line_fits, sumℤ}
use Rattle.line_rule.specs.Line.{Line, known_edition}
use Rattle.line_input.specs.Input.{KnownGlyphs, equal_lengths, good_size, good_sizes, within, none_negative, good_advances, all_known}
use Rattle.line_call.specs.Justified.{Lent, lengths_of}
use Rattle.line_input.proofs.Tests.{and_left, and_right, lengths-hold, known-each}
use Rattle.line_laws.specs.Bars.{OneLength, KnownEdition, Sized, Measured, stage_total, SmallTotals}

and_both : {a b : Bool} → a ≡ true → b ≡ true → (a && b) ≡ true
and_both {a} {b} p q = ap₂ (λ (x y : Bool). x && y) p q

-- ---- 9

pub lengths-are : (l : Line) (b : Lent) → (equal_lengths l (lengths_of b) ≡ true) ↔ OneLength l b
lengths-are l b = (holds, tested)
  where
    holds : equal_lengths l (lengths_of b) ≡ true → OneLength l b
    holds e =
        let h = lengths-hold (length l.glyphs) _ _ _ _ _ e in
        record { sizes = h.0; advances = h.1; classes = h.2; before = h.3; after = h.4 }

    tested : OneLength l b → equal_lengths l (lengths_of b) ≡ true
    tested h =
        and_both (eq-eqb _ _ h.sizes)
        (and_both (eq-eqb _ _ h.advances) (and_both (eq-eqb _ _ h.classes) (and_both (eq-eqb _ _ h.before) (and_both (eq-eqb _ _ h.after) refl))))

-- ---- 18

pub edition-is : (edition : ℕ) → (known_edition edition ≡ true) ↔ KnownEdition edition
edition-is edition = (λ e. holds (eqb edition 1) refl e, tested)
  where
    holds : (first : Bool) → eqb edition 1 ≡ first → (first || eqb edition 2) ≡ true → KnownEdition edition
    holds true e h = inl (eqb-true edition 1 e)
    holds false e h = inr (eqb-true edition 2 h)

    tested : KnownEdition edition → known_edition edition ≡ true
    tested (inl e) = ap known_edition e
    tested (inr e) = ap known_edition e

-- ---- 11

pub size_is : (s : ℕ) → (good_size s ≡ true) ↔ ((1 ≤ s) × (s ≤ 67108864))
size_is s = (
  λ e. (leb-true _ _ (and_left (leb 1 s) (leb s 67108864) e), leb-true _ _ (and_right (leb 1 s) (leb s 67108864) e)),
  λ h. and_both (le-leb 1 s h.0) (le-leb s 67108864 h.1),
)

pub sizes-are : (zs : List ℕ) → (good_sizes zs ≡ true) ↔ Sized zs
sizes-are zs = (holds zs, tested zs)
  where
    holds : (zs : List ℕ) → good_sizes zs ≡ true → Sized zs
    holds [] e place h = absurd (omega arith)
    holds (z ∷ zs) e zero h = (size_is z).0 (and_left (good_size z) (good_sizes zs) e)
    holds (z ∷ zs) e (suc place) h = holds zs (and_right (good_size z) (good_sizes zs) e) place (omega arith)

    tested : (zs : List ℕ) → Sized zs → good_sizes zs ≡ true
    tested [] h = refl
    tested (z ∷ zs) h = and_both ((size_is z).1 (h 0 (omega arith))) (tested zs (λ place q. h (suc place) (omega arith)))

-- ---- 12

whole : (xs : List ℤ) → none_negative xs ≡ true → xs ≡ map pos (map nat_abs xs)
whole [] e = refl
whole (pos a ∷ xs) e = ap (λ (l : List ℤ). pos a ∷ l) (whole xs (and_right (leb 0 a) (none_negative xs) e))
whole (negsuc a ∷ xs) e = absurd (false≢true e)

whole_back : (ys : List ℕ) → none_negative (map pos ys) ≡ true
whole_back [] = refl
whole_back (y ∷ ys) = and_both (le-leb 0 y (omega arith)) (whole_back ys)

sum-whole : (ys : List ℕ) → sumℤ (map pos ys) ≡ pos (total ys)
sum-whole [] = refl
sum-whole (y ∷ ys) = ap (λ (z : ℤ). pos y +ℤ z) (sum-whole ys)

small : (x : ℕ) → within (pos x) ≡ true → x ≤ 1073741823
small x e = leb-true x 1073741823 (and_right (leb 0 x) (leb x 1073741823) e)

small-back : (x : ℕ) → x ≤ 1073741823 → within (pos x) ≡ true
small-back x h = and_both (le-leb 0 x (omega arith)) (le-leb x 1073741823 h)

near : (z : ℤ) → within z ≡ true → (x : ℕ) × (z ≡ pos x) × (x ≤ 1073741823)
near (pos x) e = (x, refl, small x e)
near (negsuc x) e = absurd (false≢true e)

pub advances-are : (l : Line) → (good_advances l ≡ true) ↔ Measured l
advances-are l = (holds, tested)
  where
    whole-ones : Bool
    whole-ones = none_negative l.advances

    small-sum : Bool
    small-sum = within (sumℤ l.advances)

    near-target : Bool
    near-target = within l.target

    holds : good_advances l ≡ true → Measured l
    holds e =
        let two = and_left (whole-ones && small-sum) near-target e in
        let w = whole l.advances (and_left whole-ones small-sum two) in
        let aim = near l.target (and_right (whole-ones && small-sum) near-target e) in
        record {
          widths = map nat_abs l.advances;
          advances = w;
          sum = small (total (map nat_abs l.advances)) (sym (ap within (ap sumℤ w ∙ sum-whole (map nat_abs l.advances))) ∙ and_right whole-ones small-sum two);
          aim = aim.0;
          target = aim.1;
          near = aim.2;
        }

    tested : Measured l → good_advances l ≡ true
    tested h =
        and_both
        (and_both (ap none_negative h.advances ∙ whole_back h.widths) (ap within (ap sumℤ h.advances ∙ sum-whole h.widths) ∙ small-back (total h.widths) (omega (arith, h.sum))))
        (ap within h.target ∙ small-back h.aim (omega (arith, h.near)))

-- ---- 13

pub glyphs-are : (n : ℕ) (gs : List ℕ) → (all_known n gs ≡ true) ↔ KnownGlyphs n gs
glyphs-are n gs = (known-each n gs, tested gs)
  where
    one : (g : ℕ) → (g ≡ 0xFFFF) ⊎ (g < n) → (ltb g n || eqb g 0xFFFF) ≡ true
    one g (inr h) = ap (λ (b : Bool). b || eqb g 0xFFFF) (lt-ltb g n h)
    one g (inl e) = go (ltb g n)
      where
        go : (b : Bool) → (b || eqb g 0xFFFF) ≡ true
        go true = refl
        go false = eq-eqb g 0xFFFF e

    tested : (xs : List ℕ) → KnownGlyphs n xs → all_known n xs ≡ true
    tested [] h = refl
    tested (x ∷ xs) h = and_both (one x (h 0 (omega arith))) (tested xs (λ place q. h (suc place) (omega arith)))

-- ---- 15

pub totals-are : (gs : List Glyph) → (line_fits gs ≡ true) ↔ SmallTotals gs
unfolding line_fits stages
totals-are gs = (holds, tested)
  where
    t : ℕ → Bool
    t s = leb (stage_total gs s) most_total

    holds : line_fits gs ≡ true → SmallTotals gs
    holds e =
        let e1 = and_right (t 0) (t 1 && (t 2 && (t 3 && true))) e in
        let e2 = and_right (t 1) (t 2 && (t 3 && true)) e1 in
        let e3 = and_right (t 2) (t 3 && true) e2 in
        record {
          first = leb-true _ _ (and_left (t 0) (t 1 && (t 2 && (t 3 && true))) e);
          second = leb-true _ _ (and_left (t 1) (t 2 && (t 3 && true)) e1);
          third = leb-true _ _ (and_left (t 2) (t 3 && true) e2);
          fourth = leb-true _ _ (and_left (t 3) true e3);
        }

    tested : SmallTotals gs → line_fits gs ≡ true
    tested h =
        and_both (le-leb _ _ h.first)
        (and_both (le-leb _ _ h.second) (and_both (le-leb _ _ h.third) (and_both (le-leb (stage_total gs 3) most_total (omega (arith, h.fourth))) refl)))
