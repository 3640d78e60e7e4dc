-- The rule's theorems on a line of glyphs, on sizes and with signs.
use mathlib.Core.Path.{◌≡◌, refl, sym, ap, ap₂, ◌∙◌}
use mathlib.Core.List.{List, [], ◌∷◌, map}
use mathlib.Core.Logic.{◌↔◌}
use mathlib.Core.Bool.{Bool, true, false, cond, ◌&&◌, ◌||◌, false≢true}
use Prim.Native.Nat.{ℕ, zero, suc, ◌+◌, ◌-◌, ◌≤◌, ◌<◌}
use native.Mathlib.Omega.{arith}
use lib.Dec.{eqb}
use lib.IntN.{ℤ, pos, neg_ℤ, ◌+ℤ◌, neg_ℤ-+ℤ}
use lib.ListN.{length, take, get_or, replicate}
use borrow.Author.Tests.{eqb-true, eq-eqb}
use Rattle.share.specs.Share.{total, of_stage, stages, no_part, among, empty}
use Rattle.share.specs.Line.{Glyph, apart, side_stages, side_factors, side_extras, line_moves, before_moves, after_moves, line_left, signed_of, nothing_moves, none_unlimited, EachLimited, full_moves, full_total, sumℤ}
use Rattle.share.proofs.Lists.{get_or-le-total}
use Rattle.share.proofs.Theory.{sum-is-gap, length-moves_by, no-part-still, both, remainder_is, limits-remainder, limits-reached}
use Rattle.share.proofs.Halves.{total-halves, length-halves, get_or-evens, get_or-odds}

-- a local array of zeros, lent in part
pub zeros-length : (m n : ℕ) → n ≤ m → n ≡ length {A = ℕ} (take n (replicate m 0))
zeros-length m zero h = refl
zeros-length zero (suc n) h = absurd (omega arith)
zeros-length (suc m) (suc n) h = ap suc (zeros-length m n (omega arith))

pub zeros-take : (m n : ℕ) → n ≤ m → take {A = ℕ} n (replicate m 0) ≡ replicate n 0
zeros-take m zero h = refl
zeros-take zero (suc n) h = absurd (omega arith)
zeros-take (suc m) (suc n) h = ap (λ (l : List ℕ). 0 ∷ l) (zeros-take m n (omega arith))

-- ---- the theorems on a line

length-sides : (gs : List Glyph) → (length (side_stages gs) ≡ length gs + length gs) × (length (side_factors gs) ≡ length gs + length gs) × (length (side_extras gs) ≡ length gs + length gs)
length-sides [] = (refl, refl, refl)
length-sides (g ∷ gs) = let i = length-sides gs in (omega arith, omega arith, omega arith)

-- a movement for each side of each glyph
pub line-lengths : (back : Bool) (gs : List Glyph) (gap : ℕ) → (length (before_moves back gs gap) ≡ length gs) × (length (after_moves back gs gap) ≡ length gs)
unfolding line_moves
line-lengths back gs gap =
    let i = length-sides gs in
    length-halves (length gs) (line_moves back gs gap) (length-moves_by stages back (length gs + length gs) (side_stages gs) (side_factors gs) (side_extras gs) gap i.0 i.1 i.2)

-- THE SUM: movements and remainder are the gap, to the unit, in both editions
pub line-sum : (back : Bool) (gs : List Glyph) (gap : ℕ) → total (before_moves back gs gap) + total (after_moves back gs gap) + line_left back gs gap ≡ gap
unfolding line_moves line_left
line-sum back gs gap = omega (arith, total-halves (line_moves back gs gap), sum-is-gap back (side_stages gs) (side_factors gs) (side_extras gs) gap)

-- NO MOVEMENT IS ABOVE THE GAP, nor are all before sides together, nor all after sides
pub line_small : (back : Bool) (gs : List Glyph) (gap : ℕ) → (total (before_moves back gs gap) ≤ gap) × (total (after_moves back gs gap) ≤ gap)
line_small back gs gap = let s = line-sum back gs gap in (omega arith, omega arith)

pub move-small : (back : Bool) (gs : List Glyph) (gap i : ℕ) → (get_or (before_moves back gs gap) i 0 ≤ gap) × (get_or (after_moves back gs gap) i 0 ≤ gap)
move-small back gs gap i =
    let s = line_small back gs gap in
    (omega (arith, get_or-le-total (before_moves back gs gap) i), omega (arith, get_or-le-total (after_moves back gs gap) i))

-- NOTHING MOVES: of a gap of 0 every glyph's movements are 0, and nothing is left
all-zero : (xs : List ℕ) → total xs ≡ 0 → xs ≡ replicate (length xs) 0
all-zero [] e = refl
all-zero (x ∷ xs) e =
    let z : x ≡ 0 = omega arith in
    let i : xs ≡ replicate (length xs) 0 = all-zero xs (omega arith) in
    ap (λ (y : ℕ). y ∷ xs) z ∙ ap (λ (l : List ℕ). 0 ∷ l) i

pub line-unmoved : (back : Bool) (gs : List Glyph) → (before_moves back gs 0 ≡ replicate (length gs) 0) × (after_moves back gs 0 ≡ replicate (length gs) 0) × (line_left back gs 0 ≡ 0)
line-unmoved back gs =
    let s = line-sum back gs 0 in
    let n = line-lengths back gs 0 in (
      all-zero (before_moves back gs 0) (omega arith) ∙ ap (λ (k : ℕ). replicate k 0) n.0,
      all-zero (after_moves back gs 0) (omega arith) ∙ ap (λ (k : ℕ). replicate k 0) n.1,
      omega arith,
    )

-- WHEN THERE IS A REMAINDER in edition 1, and in edition 2
pub line-remainder : (gs : List Glyph) (gap : ℕ) → line_left true gs gap ≡ cond (nothing_moves gs) gap 0
unfolding line_left
line-remainder gs gap = remainder_is (side_stages gs) (side_factors gs) (side_extras gs) gap

pub line-limits : (gs : List Glyph) (gap : ℕ) → line_left false gs gap ≡ cond (none_unlimited gs) (gap - full_total gs) 0
unfolding line_left
line-limits gs gap = limits-remainder (side_stages gs) (side_factors gs) (side_extras gs) stages gap

-- NONE UNLIMITED: the total of each stage's extra weights is 0 exactly when no glyph of a stage is unlimited
module _ (s : ℕ) where
  extra-none : (gs : List Glyph) (i : ℕ) → total (of_stage s (side_stages gs) (side_extras gs)) ≡ 0 → i < length gs → eqb (get_or gs i apart).stage s ≡ true
      → (get_or gs i apart).extra ≡ 0
  extra-none [] i e h q = absurd (omega arith)
  extra-none (g ∷ gs) zero e h q = omega (arith, ap (λ (b : Bool). cond b g.extra 0) q)
  extra-none (g ∷ gs) (suc i) e h q = extra-none gs i (omega arith) (omega arith) q

  none-extra : (gs : List Glyph) → ((i : ℕ) → i < length gs → eqb (get_or gs i apart).stage s ≡ true → (get_or gs i apart).extra ≡ 0)
      → total (of_stage s (side_stages gs) (side_extras gs)) ≡ 0
  none-extra [] h = refl
  none-extra (g ∷ gs) h =
      let first : ◌≡◌ {A = ℕ} (cond (eqb g.stage s) 0 0) 0 = (go (eqb g.stage s) refl).0 in
      let second : cond (eqb g.stage s) g.extra 0 ≡ 0 = (go (eqb g.stage s) refl).1 in
      omega (arith, first, second, none-extra gs (λ i l q. h (suc i) (omega arith) q))
    where
      go : (b : Bool) → eqb g.stage s ≡ b → (◌≡◌ {A = ℕ} (cond b 0 0) 0) × (cond b g.extra 0 ≡ 0)
      go true e = (refl, h 0 (omega arith) e)
      go false e = (refl, refl)

module _ (gs : List Glyph) where
  empty-each : (ss : List ℕ) → empty (side_stages gs) (side_extras gs) ss ≡ true → (i : ℕ) → i < length gs → among (get_or gs i apart).stage ss ≡ true
      → (get_or gs i apart).extra ≡ 0
  empty-each [] e i h q = absurd (false≢true q)
  empty-each (s ∷ ss) e i h q = go (eqb (get_or gs i apart).stage s) refl q (empty-each ss p.1 i h)
    where
      p : (eqb (total (of_stage s (side_stages gs) (side_extras gs))) 0 ≡ true) × (empty (side_stages gs) (side_extras gs) ss ≡ true)
      p = both _ _ e

      go : (b : Bool) → eqb (get_or gs i apart).stage s ≡ b → (b || among (get_or gs i apart).stage ss) ≡ true
          → (among (get_or gs i apart).stage ss ≡ true → (get_or gs i apart).extra ≡ 0) → (get_or gs i apart).extra ≡ 0
      go true w r ih = extra-none s gs i (eqb-true _ _ p.0) h w
      go false w r ih = ih r

  each-empty : (ss : List ℕ) → ((i : ℕ) → i < length gs → among (get_or gs i apart).stage ss ≡ true → (get_or gs i apart).extra ≡ 0)
      → empty (side_stages gs) (side_extras gs) ss ≡ true
  each-empty [] h = refl
  each-empty (s ∷ ss) h =
      ap₂ (λ (x y : Bool). x && y)
      (eq-eqb _ _ (none-extra s gs (λ i l q. h i l (ap (λ (b : Bool). b || among (get_or gs i apart).stage ss) q))))
      (each-empty ss (λ i l q. h i l (either-one (eqb (get_or gs i apart).stage s) q)))
    where
      either-one : (b : Bool) {c : Bool} → c ≡ true → (b || c) ≡ true
      either-one true q = refl
      either-one false q = q

  pub none-unlimited : (none_unlimited gs ≡ true) ↔ EachLimited gs
  none-unlimited = (empty-each stages, each-empty stages)

-- FULL FACTORS: in edition 2 a remainder other than 0 means that every side taking part has its full factor and that no stage has an unlimited glyph
pub line-full : (gs : List Glyph) (gap : ℕ) → 0 < line_left false gs gap → (line_moves false gs gap ≡ full_moves gs) × (none_unlimited gs ≡ true)
unfolding line_left line_moves
line-full gs gap h =
    let i = length-sides gs in
    limits-reached (length gs + length gs) (side_stages gs) (side_factors gs) (side_extras gs) i.0 i.1 i.2 gap h

-- STAYS STILL: a glyph that takes no part does not move
stage_at : (gs : List Glyph) (i : ℕ) → (get_or (side_stages gs) (i + i) no_part ≡ (get_or gs i apart).stage) × (get_or (side_stages gs) (i + i + 1) no_part ≡ (get_or gs i apart).stage)
stage_at [] i = (refl, refl)
stage_at (g ∷ gs) zero = (refl, refl)
stage_at (g ∷ gs) (suc i) =
    let e : suc i + suc i ≡ suc (suc (i + i)) = omega arith in
    let f : suc i + suc i + 1 ≡ suc (suc (i + i + 1)) = omega arith in
    (rw e (stage_at gs i).0, rw f (stage_at gs i).1)

pub line-still : (back : Bool) (gs : List Glyph) (gap i : ℕ) → (get_or gs i apart).stage ≡ no_part → (get_or (before_moves back gs gap) i 0 ≡ 0) × (get_or (after_moves back gs gap) i 0 ≡ 0)
unfolding line_moves
line-still back gs gap i e =
    let s = stage_at gs i in (
      get_or-evens i (line_moves back gs gap) ∙ no-part-still back (i + i) (side_stages gs) (side_factors gs) (side_extras gs) gap (s.0 ∙ e),
      get_or-odds i (line_moves back gs gap) ∙ no-part-still back (i + i + 1) (side_stages gs) (side_factors gs) (side_extras gs) gap (s.1 ∙ e),
    )

-- ---- with signs

-- the sum of sizes with a sign is their sum with that sign
pub sum-signed : (b : Bool) (l : List ℕ) → sumℤ (map (signed_of b) l) ≡ signed_of b (total l)
sum-signed true [] = refl
sum-signed false [] = refl
sum-signed true (x ∷ l) = ap (λ (z : ℤ). neg_ℤ (pos x) +ℤ z) (sum-signed true l) ∙ sym (neg_ℤ-+ℤ (pos x) (pos (total l)))
sum-signed false (x ∷ l) = ap (λ (z : ℤ). pos x +ℤ z) (sum-signed false l)

pub add-signed : (b : Bool) (x y : ℕ) → signed_of b x +ℤ signed_of b y ≡ signed_of b (x + y)
add-signed true x y = sym (neg_ℤ-+ℤ (pos x) (pos y))
add-signed false x y = refl

-- THE SUM, with signs
pub line-sum-signed : (back b : Bool) (gs : List Glyph) (gap : ℕ)
    → (sumℤ (map (signed_of b) (before_moves back gs gap)) +ℤ sumℤ (map (signed_of b) (after_moves back gs gap))) +ℤ signed_of b (line_left back gs gap) ≡ signed_of b gap
line-sum-signed back b gs gap =
    ap (λ (z : ℤ). (z +ℤ sumℤ (map (signed_of b) (after_moves back gs gap))) +ℤ signed_of b (line_left back gs gap)) (sum-signed b (before_moves back gs gap))
    ∙ ap (λ (z : ℤ). (signed_of b (total (before_moves back gs gap)) +ℤ z) +ℤ signed_of b (line_left back gs gap)) (sum-signed b (after_moves back gs gap))
    ∙ ap (λ (z : ℤ). z +ℤ signed_of b (line_left back gs gap)) (add-signed b (total (before_moves back gs gap)) (total (after_moves back gs gap)))
    ∙ add-signed b (total (before_moves back gs gap) + total (after_moves back gs gap)) (line_left back gs gap)
    ∙ ap (signed_of b) (line-sum back gs gap)
