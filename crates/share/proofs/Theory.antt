-- The staged rule's theorems, over any list of stages, with going back or without it: movements and remainder sum to the gap, and of a gap of 0 all are 0;
-- each side has its movement; a side of no stage stays still; when there is a remainder, and what it then means.
use mathlib.Core.Path.{◌≡◌, refl, sym, ap, ap₂, ◌∙◌}
use mathlib.Core.List.{List, [], ◌∷◌}
use mathlib.Core.Bool.{Bool, true, false, cond, ◌&&◌, ◌||◌, false≢true}
use Prim.Native.Nat.{ℕ, zero, suc, ◌+◌, ◌-◌, ◌≤◌, ◌<◌}
use native.Mathlib.Omega.{arith}
use lib.Dec.{leb, ltb, eqb}
use lib.ListN.{length, get_or}
use borrow.Author.Tests.{ltb-true, ltb-false, leb-true, leb-false, eqb-true, eq-eqb, ne_eqb, le-ltb}
use Rattle.share.specs.Share.{total, still, plus, of_stage, shares, stage_moves, stage_left, stages_moves, stages_left, back_moves, back_left, moves_by, left_by, stages, no_part, movements, remainder, among, empty, full, all_total}
use Rattle.share.proofs.Lists.{plus-nothing, total-plus, total-still, get_or-le-total, length-plus, length-still, length-of_stage, length-shares, get_or-plus, get_or-still, of_stage-miss, shares-none, total-shares, no-shares, total-shares-le}

-- ---- the sum

-- one stage: what it gives and what it leaves is r
pub stage-sum : (r : ℕ) (ws us : List ℕ) → total (stage_moves r ws us) + stage_left r ws us ≡ r
unfolding stage_moves stage_left
stage-sum r ws us = go (leb r (total ws)) refl (ltb 0 (total us)) refl
  where
    go : (b : Bool) → leb r (total ws) ≡ b → (d : Bool) → ltb 0 (total us) ≡ d
        → total (cond b (shares r ws) (plus ws (shares (r - total ws) us))) + cond b 0 (cond d 0 (r - total ws)) ≡ r
    go true e d f = omega (arith, total-shares-le r ws (leb-true r (total ws) e))
    go false e true f = omega (arith, leb-false r (total ws) e, total-plus ws (shares (r - total ws) us), total-shares (r - total ws) us (ltb-true 0 (total us) f))
    go false e false f =
        let z : total us ≡ 0 = omega (arith, ltb-false 0 (total us) f) in
        omega (arith, leb-false r (total ws) e, total-plus ws (shares (r - total ws) us), no-shares (r - total ws) us z)

module _ (ks fs us : List ℕ) where
  pub stages-sum : (ss : List ℕ) (r : ℕ) → total (stages_moves ks fs us ss r) + stages_left ks fs us ss r ≡ r
  stages-sum [] r = omega (arith, total-still ks)
  stages-sum (s ∷ ss) r =
      let ws = of_stage s ks fs in
      let es = of_stage s ks us in
      omega (arith, stage-sum r ws es, stages-sum ss (stage_left r ws es), total-plus (stage_moves r ws es) (stages_moves ks fs us ss (stage_left r ws es)))

module _ (ks fs : List ℕ) where
  pub back_sum : (ss : List ℕ) (r : ℕ) → total (back_moves ks fs ss r) + back_left ks fs ss r ≡ r
  back_sum [] r = omega (arith, total-still ks)
  back_sum (s ∷ ss) r = go (ltb 0 (total (of_stage s ks fs))) refl (back_sum ss r)
    where
      go : (b : Bool) → ltb 0 (total (of_stage s ks fs)) ≡ b → total (back_moves ks fs ss r) + back_left ks fs ss r ≡ r
          → total (cond b (shares r (of_stage s ks fs)) (back_moves ks fs ss r)) + cond b 0 (back_left ks fs ss r) ≡ r
      go true e i = omega (arith, total-shares r (of_stage s ks fs) (ltb-true 0 (total (of_stage s ks fs)) e))
      go false e i = i

-- THE SUM: movements and remainder are the gap, to the unit
pub sum_by : (ss : List ℕ) (back : Bool) (ks fs us : List ℕ) (gap : ℕ) → total (moves_by ss back ks fs us gap) + left_by ss back ks fs us gap ≡ gap
unfolding moves_by left_by
sum_by ss true ks fs us gap =
    let q = stages_left ks fs us ss gap in
    omega (arith, stages-sum ks fs us ss gap, back_sum ks fs ss q, total-plus (stages_moves ks fs us ss gap) (back_moves ks fs ss q))
sum_by ss false ks fs us gap =
    omega (arith, stages-sum ks fs us ss gap, total-plus (stages_moves ks fs us ss gap) (still ks), total-still ks)

-- in both editions
pub sum-is-gap : (back : Bool) (ks fs us : List ℕ) (gap : ℕ) → total (movements back ks fs us gap) + remainder back ks fs us gap ≡ gap
sum-is-gap back ks fs us gap = sum_by stages back ks fs us gap

-- NOTHING MOVES: of a gap of 0 no side takes anything, and nothing is left
pub none_moves : (ss : List ℕ) (back : Bool) (ks fs us : List ℕ) (i : ℕ) → get_or (moves_by ss back ks fs us 0) i 0 ≡ 0
none_moves ss back ks fs us i = omega (arith, sum_by ss back ks fs us 0, get_or-le-total (moves_by ss back ks fs us 0) i)

pub none_left : (ss : List ℕ) (back : Bool) (ks fs us : List ℕ) → left_by ss back ks fs us 0 ≡ 0
none_left ss back ks fs us = omega (arith, sum_by ss back ks fs us 0)

-- ---- each side has its movement

pub length-stage_moves : (n r : ℕ) (ws us : List ℕ) → length ws ≡ n → length us ≡ n → length (stage_moves r ws us) ≡ n
unfolding stage_moves
length-stage_moves n r ws us a b = go (leb r (total ws))
  where
    go : (d : Bool) → length (cond d (shares r ws) (plus ws (shares (r - total ws) us))) ≡ n
    go true = length-shares r ws ∙ a
    go false = length-plus n ws (shares (r - total ws) us) a (length-shares (r - total ws) us ∙ b)

module _ (n : ℕ) (ks fs us : List ℕ) (k : length ks ≡ n) (f : length fs ≡ n) (u : length us ≡ n) where
  pub length-stages_moves : (ss : List ℕ) (r : ℕ) → length (stages_moves ks fs us ss r) ≡ n
  length-stages_moves [] r = length-still ks ∙ k
  length-stages_moves (s ∷ ss) r =
      let ws = of_stage s ks fs in
      let es = of_stage s ks us in
      length-plus n (stage_moves r ws es) _ (length-stage_moves n r ws es (length-of_stage s n ks fs k f) (length-of_stage s n ks us k u)) (length-stages_moves ss (stage_left r ws es))

module _ (n : ℕ) (ks fs : List ℕ) (k : length ks ≡ n) (f : length fs ≡ n) where
  pub length-back_moves : (ss : List ℕ) (r : ℕ) → length (back_moves ks fs ss r) ≡ n
  length-back_moves [] r = length-still ks ∙ k
  length-back_moves (s ∷ ss) r = go (ltb 0 (total (of_stage s ks fs))) (length-back_moves ss r)
    where
      go : (b : Bool) → length (back_moves ks fs ss r) ≡ n → length (cond b (shares r (of_stage s ks fs)) (back_moves ks fs ss r)) ≡ n
      go true i = length-shares r (of_stage s ks fs) ∙ length-of_stage s n ks fs k f
      go false i = i

pub length-moves_by : (ss : List ℕ) (back : Bool) (n : ℕ) (ks fs us : List ℕ) (gap : ℕ) → length ks ≡ n → length fs ≡ n → length us ≡ n
    → length (moves_by ss back ks fs us gap) ≡ n
unfolding moves_by
length-moves_by ss back n ks fs us gap k f u =
    length-plus n (stages_moves ks fs us ss gap) _ (length-stages_moves n ks fs us k f u ss gap) (go back)
  where
    go : (b : Bool) → length (cond b (back_moves ks fs ss (stages_left ks fs us ss gap)) (still ks)) ≡ n
    go true = length-back_moves n ks fs k f ss (stages_left ks fs us ss gap)
    go false = length-still ks ∙ k

-- ---- a side that takes no part

either : (a b : Bool) → (a || b) ≡ false → (a ≡ false) × (b ≡ false)
either true b e = absurd (false≢true (sym e))
either false b e = (refl, e)

stage-still : (r i : ℕ) (ws us : List ℕ) → get_or ws i 0 ≡ 0 → get_or us i 0 ≡ 0 → get_or (stage_moves r ws us) i 0 ≡ 0
unfolding stage_moves
stage-still r i ws us a b = go (leb r (total ws))
  where
    go : (d : Bool) → get_or (cond d (shares r ws) (plus ws (shares (r - total ws) us))) i 0 ≡ 0
    go true = shares-none r i ws a
    go false = omega (arith, get_or-plus i ws (shares (r - total ws) us), shares-none (r - total ws) i us b)

module _ (d i : ℕ) (ks fs us : List ℕ) where
  stages-still : (ss : List ℕ) (r : ℕ) → among (get_or ks i d) ss ≡ false → get_or (stages_moves ks fs us ss r) i 0 ≡ 0
  stages-still [] r e = get_or-still ks i
  stages-still (s ∷ ss) r e =
      let ws = of_stage s ks fs in
      let es = of_stage s ks us in
      let p = either (eqb (get_or ks i d) s) (among (get_or ks i d) ss) e in
      omega (
        arith,
        get_or-plus i (stage_moves r ws es) (stages_moves ks fs us ss (stage_left r ws es)),
        stage-still r i ws es (of_stage-miss s d i ks fs p.0) (of_stage-miss s d i ks us p.0),
        stages-still ss (stage_left r ws es) p.1,
      )

  back-still : (ss : List ℕ) (r : ℕ) → among (get_or ks i d) ss ≡ false → get_or (back_moves ks fs ss r) i 0 ≡ 0
  back-still [] r e = get_or-still ks i
  back-still (s ∷ ss) r e = go (ltb 0 (total (of_stage s ks fs))) (back-still ss r p.1)
    where
      p : (eqb (get_or ks i d) s ≡ false) × (among (get_or ks i d) ss ≡ false)
      p = either (eqb (get_or ks i d) s) (among (get_or ks i d) ss) e

      go : (b : Bool) → get_or (back_moves ks fs ss r) i 0 ≡ 0 → get_or (cond b (shares r (of_stage s ks fs)) (back_moves ks fs ss r)) i 0 ≡ 0
      go true h = shares-none r i (of_stage s ks fs) (of_stage-miss s d i ks fs p.0)
      go false h = h

  -- STAYS STILL: a side whose priority is no stage of the list does not move
  pub still-by : (ss : List ℕ) (back : Bool) (gap : ℕ) → among (get_or ks i d) ss ≡ false → get_or (moves_by ss back ks fs us gap) i 0 ≡ 0
  unfolding moves_by
  still-by ss true gap e =
      let q = stages_left ks fs us ss gap in
      omega (arith, get_or-plus i (stages_moves ks fs us ss gap) (back_moves ks fs ss q), stages-still ss gap e, back-still ss q e)
  still-by ss false gap e =
      omega (arith, get_or-plus i (stages_moves ks fs us ss gap) (still ks), stages-still ss gap e, get_or-still ks i)

no_part-apart : among no_part stages ≡ false
unfolding stages
no_part-apart = refl

pub no-part-still : (back : Bool) (i : ℕ) (ks fs us : List ℕ) (gap : ℕ) → get_or ks i no_part ≡ no_part → get_or (movements back ks fs us gap) i 0 ≡ 0
no-part-still back i ks fs us gap e = still-by no_part i ks fs us stages back gap (ap (λ (k : ℕ). among k stages) e ∙ no_part-apart)

-- ---- the remainder

pub both : (a b : Bool) → (a && b) ≡ true → (a ≡ true) × (b ≡ true)
both true b e = (refl, e)
both false b e = absurd (false≢true e)

-- what one stage leaves: what is past its factors where none of it is unlimited, else nothing
stage-left : (r : ℕ) (ws us : List ℕ) → stage_left r ws us ≡ cond (eqb (total us) 0) (r - total ws) 0
unfolding stage_left
stage-left r ws us = go (leb r (total ws)) refl (ltb 0 (total us)) refl
  where
    go : (b : Bool) → leb r (total ws) ≡ b → (u : Bool) → ltb 0 (total us) ≡ u → cond b 0 (cond u 0 (r - total ws)) ≡ cond (eqb (total us) 0) (r - total ws) 0
    go b f true g = rw (ne_eqb (total us) 0 (λ z. omega (arith, ltb-true 0 (total us) g))) (either_way b)
      where
        either_way : (b : Bool) → ◌≡◌ {A = ℕ} (cond b 0 0) 0
        either_way true = refl
        either_way false = refl
    go true f false g =
        let z : total us ≡ 0 = omega (arith, ltb-false 0 (total us) g) in
        rw (eq-eqb (total us) 0 z) (omega (arith, leb-true r (total ws) f))
    go false f false g =
        let z : total us ≡ 0 = omega (arith, ltb-false 0 (total us) g) in
        rw (eq-eqb (total us) 0 z) refl

module _ (ks fs us : List ℕ) where
  nothing_left : (ss : List ℕ) → stages_left ks fs us ss 0 ≡ 0
  nothing_left ss = omega (arith, stages-sum ks fs us ss 0)

  -- what the stages leave: what is past all factors, where none of them has an unlimited glyph; else nothing
  stages-left : (ss : List ℕ) (r : ℕ) → stages_left ks fs us ss r ≡ cond (empty ks us ss) (r - all_total ks fs ss) 0
  stages-left [] r = omega arith
  stages-left (s ∷ ss) r =
      ap (stages_left ks fs us ss) (stage-left r (of_stage s ks fs) (of_stage s ks us))
      ∙ go (eqb (total (of_stage s ks us)) 0) (stages-left ss (r - total (of_stage s ks fs)))
    where
      go : (b : Bool) → stages_left ks fs us ss (r - total (of_stage s ks fs)) ≡ cond (empty ks us ss) (r - total (of_stage s ks fs) - all_total ks fs ss) 0
          → stages_left ks fs us ss (cond b (r - total (of_stage s ks fs)) 0) ≡ cond (b && empty ks us ss) (r - (total (of_stage s ks fs) + all_total ks fs ss)) 0
      go false i = nothing_left ss
      go true i = i ∙ ap (λ (n : ℕ). cond (empty ks us ss) n 0) (omega arith)

  -- WHEN THERE IS A REMAINDER without going back: what is past all factors, where no stage has an unlimited glyph; else nothing
  pub limits-remainder : (ss : List ℕ) (gap : ℕ) → left_by ss false ks fs us gap ≡ cond (empty ks us ss) (gap - all_total ks fs ss) 0
  unfolding left_by
  limits-remainder ss gap = stages-left ss gap

module _ (ks fs us : List ℕ) where
  back_none : (ss : List ℕ) (r : ℕ) → empty ks fs ss ≡ true → back_left ks fs ss r ≡ r
  back_none [] r e = refl
  back_none (s ∷ ss) r e =
      let p = both (eqb (total (of_stage s ks fs)) 0) (empty ks fs ss) e in
      let z : total (of_stage s ks fs) ≤ 0 = omega (arith, eqb-true (total (of_stage s ks fs)) 0 p.0) in
      rw (le-ltb 0 (total (of_stage s ks fs)) z) (back_none ss r p.1)

  back_some : (ss : List ℕ) (r : ℕ) → empty ks fs ss ≡ false → back_left ks fs ss r ≡ 0
  back_some [] r e = absurd (false≢true (sym e))
  back_some (s ∷ ss) r e = go (ltb 0 (total (of_stage s ks fs))) refl (back_some ss r)
    where
      go : (b : Bool) → ltb 0 (total (of_stage s ks fs)) ≡ b → (empty ks fs ss ≡ false → back_left ks fs ss r ≡ 0)
          → cond b 0 (back_left ks fs ss r) ≡ 0
      go true f i = refl
      go false f i =
          let z : total (of_stage s ks fs) ≡ 0 = omega (arith, ltb-false 0 (total (of_stage s ks fs)) f) in
          i (sym (ap (λ (b : Bool). b && empty ks fs ss) (eq-eqb (total (of_stage s ks fs)) 0 z)) ∙ e)

  empty-total : (ss : List ℕ) → empty ks fs ss ≡ true → all_total ks fs ss ≡ 0
  empty-total [] e = refl
  empty-total (s ∷ ss) e =
      let p = both (eqb (total (of_stage s ks fs)) 0) (empty ks fs ss) e in
      omega (arith, eqb-true (total (of_stage s ks fs)) 0 p.0, empty-total ss p.1)

  -- WHEN THERE IS A REMAINDER: what is left after going back is the whole gap where no stage has a factor above 0 and none an unlimited glyph, and
  -- nothing otherwise
  pub back-remainder : (ss : List ℕ) (gap : ℕ) → left_by ss true ks fs us gap ≡ cond (empty ks fs ss && empty ks us ss) gap 0
  unfolding left_by
  back-remainder ss gap = go (empty ks fs ss) refl
    where
      go : (b : Bool) → empty ks fs ss ≡ b → back_left ks fs ss (stages_left ks fs us ss gap) ≡ cond (b && empty ks us ss) gap 0
      go true e =
          back_none ss (stages_left ks fs us ss gap) e ∙ stages-left ks fs us ss gap
          ∙ ap (λ (n : ℕ). cond (empty ks us ss) n 0) (omega (arith, empty-total ss e))
      go false e = back_some ss (stages_left ks fs us ss gap) e

pub remainder_is : (ks fs us : List ℕ) (gap : ℕ) → remainder true ks fs us gap ≡ cond (empty ks fs stages && empty ks us stages) gap 0
remainder_is ks fs us gap = back-remainder ks fs us stages gap

-- ---- full factors

-- the factors of these stages, one stage after the other
abbrev stacked : List ℕ → List ℕ → List ℕ → List ℕ
stacked ks fs [] = still ks
stacked ks fs (s ∷ ss) = plus (of_stage s ks fs) (stacked ks fs ss)

-- a priority is of one stage at most
one-stage : (k f : ℕ) → cond (eqb k 0) f 0 + (cond (eqb k 1) f 0 + (cond (eqb k 2) f 0 + (cond (eqb k 3) f 0 + 0))) ≡ cond (eqb k 0 || (eqb k 1 || (eqb k 2 || (eqb k 3 || false)))) f 0
one-stage zero f = omega arith
one-stage (suc zero) f = omega arith
one-stage (suc (suc zero)) f = omega arith
one-stage (suc (suc (suc zero))) f = omega arith
one-stage (suc (suc (suc (suc k)))) f =
    rw (ne_eqb (suc (suc (suc (suc k)))) 0 (λ e. omega arith), ne_eqb (suc (suc (suc (suc k)))) 1 (λ e. omega arith), ne_eqb (suc (suc (suc (suc k)))) 2 (λ e. omega arith), ne_eqb (suc (suc (suc (suc k)))) 3 (λ e. omega arith))

stacked-full : (ks fs : List ℕ) → length fs ≡ length ks → stacked ks fs stages ≡ full stages ks fs
unfolding stages
stacked-full [] fs e = refl
stacked-full (k ∷ ks) [] e = absurd (omega arith)
stacked-full (k ∷ ks) (f ∷ fs) e = ap₂ (λ (x : ℕ) (l : List ℕ). x ∷ l) (one-stage k f) (stacked-full ks fs (omega arith))

-- a stage that leaves something has its factors, and no unlimited glyph
stage-full : (n r : ℕ) (ws us : List ℕ) → length ws ≡ n → length us ≡ n → 0 < stage_left r ws us → (stage_moves r ws us ≡ ws) × (eqb (total us) 0 ≡ true)
unfolding stage_moves stage_left
stage-full n r ws us a b h = go (leb r (total ws)) (ltb 0 (total us)) refl h
  where
    go : (d : Bool) (u : Bool) → ltb 0 (total us) ≡ u → 0 < cond d 0 (cond u 0 (r - total ws))
        → (cond d (shares r ws) (plus ws (shares (r - total ws) us)) ≡ ws) × (eqb (total us) 0 ≡ true)
    go true u f l = absurd (omega arith)
    go false true f l = absurd (omega arith)
    go false false f l =
        let z : total us ≡ 0 = omega (arith, ltb-false 0 (total us) f) in
        (plus-nothing ws (shares (r - total ws) us) (no-shares (r - total ws) us z) (omega (arith, length-shares (r - total ws) us)), eq-eqb (total us) 0 z)

module _ (n : ℕ) (ks fs us : List ℕ) (k : length ks ≡ n) (f : length fs ≡ n) (u : length us ≡ n) where
  stages-full : (ss : List ℕ) (r : ℕ) → 0 < stages_left ks fs us ss r → (stages_moves ks fs us ss r ≡ stacked ks fs ss) × (empty ks us ss ≡ true)
  stages-full [] r h = (refl, refl)
  stages-full (s ∷ ss) r h =
      let ws = of_stage s ks fs in
      let es = of_stage s ks us in
      let q = stage_left r ws es in
      let i = stages-full ss q h in
      let p : 0 < stage_left r ws es = omega (arith, stages-sum ks fs us ss q) in
      let one = stage-full n r ws es (length-of_stage s n ks fs k f) (length-of_stage s n ks us k u) p in
      (ap₂ plus one.0 i.0, ap₂ (λ (x y : Bool). x && y) one.1 i.1)

  -- FULL FACTORS: without going back a remainder other than 0 means that every side of a stage has its full factor, and that no stage has an unlimited glyph
  pub limits-reached : (gap : ℕ) → 0 < left_by stages false ks fs us gap → (moves_by stages false ks fs us gap ≡ full stages ks fs) × (empty ks us stages ≡ true)
  unfolding left_by moves_by
  limits-reached gap h =
      let w = stages-full stages gap h in
      let l = length-stages_moves n ks fs us k f u stages gap in
      (plus-nothing (stages_moves ks fs us stages gap) (still ks) (total-still ks) (omega (arith, length-still ks)) ∙ w.0 ∙ stacked-full ks fs (omega arith), w.1)
