-- What the first sides of a line get rises with the gap (request 1/14, on sizes): over any list of stages, with going back or without it.
use mathlib.Core.Path.{◌≡◌, refl}
use mathlib.Core.List.{List, [], ◌∷◌}
use mathlib.Core.Bool.{Bool, true, false, cond}
use Prim.Native.Nat.{ℕ, zero, suc, ◌+◌, ◌-◌, ◌*◌, ◌/◌, ◌≤◌}
use native.Mathlib.Omega.{arith}
use native.Mathlib.Nat.{le_refl, mul-le-mul_right, mul_comm, div-zero}
use lib.Dec.{leb, ltb}
use lib.ListN.{get_or}
use borrow.Author.Tests.{leb-true, leb-false}
use Rattle.share.specs.Share.{total, still, plus, of_stage, shares, stage_moves, stage_left, stages_moves, stages_left, back_moves, moves_by, stages}
use Rattle.share.specs.Line.{Glyph, side_stages, side_factors, side_extras, evens, odds, line_moves}
use Rattle.share.proofs.Lists.{upto, plus-upto, shares-upto, div_mono, part-le}

-- ---- one stage

-- a larger amount gives every prefix of the sides at least as much
shares-rise : (k : ℕ) (ws : List ℕ) {r q : ℕ} → r ≤ q → upto k (shares r ws) ≤ upto k (shares q ws)
shares-rise k ws {r} {q} h = rw (shares-upto r k ws, shares-upto q k ws) (div_mono (total ws) (mul-le-mul_right (upto k ws) h))

-- an amount of at most the total gives every prefix at most its factors
shares-below : (r k : ℕ) (ws : List ℕ) → r ≤ total ws → upto k (shares r ws) ≤ upto k ws
shares-below r k ws h = rw (shares-upto r k ws) (below (total ws) (upto k ws) h)
  where
    below : (t n : ℕ) → r ≤ t → r * n / t ≤ n
    below zero n h = rw (div-zero (r * n)) (omega arith)
    below (suc t) n h = rw (mul_comm r n) (part-le n (omega arith) h)

stage-rises : (k : ℕ) (ws us : List ℕ) {r q : ℕ} → r ≤ q → upto k (stage_moves r ws us) ≤ upto k (stage_moves q ws us)
unfolding stage_moves
stage-rises k ws us {r} {q} h = go (leb r (total ws)) refl (leb q (total ws)) refl
  where
    go : (b : Bool) → leb r (total ws) ≡ b → (d : Bool) → leb q (total ws) ≡ d
        → upto k (cond b (shares r ws) (plus ws (shares (r - total ws) us))) ≤ upto k (cond d (shares q ws) (plus ws (shares (q - total ws) us)))
    go true e true f = shares-rise k ws h
    go true e false f = omega (arith, shares-below r k ws (leb-true r (total ws) e), plus-upto k ws (shares (q - total ws) us))
    go false e true f = absurd (omega (arith, leb-false r (total ws) e, leb-true q (total ws) f))
    go false e false f =
        let m : r - total ws ≤ q - total ws = omega arith in
        omega (arith, plus-upto k ws (shares (q - total ws) us), plus-upto k ws (shares (r - total ws) us), shares-rise k us m)

left-rises : (ws us : List ℕ) {r q : ℕ} → r ≤ q → stage_left r ws us ≤ stage_left q ws us
unfolding stage_left
left-rises ws us {r} {q} h = go (leb r (total ws)) refl (leb q (total ws)) refl (ltb 0 (total us))
  where
    go : (b : Bool) → leb r (total ws) ≡ b → (d : Bool) → leb q (total ws) ≡ d → (u : Bool)
        → cond b 0 (cond u 0 (r - total ws)) ≤ cond d 0 (cond u 0 (q - total ws))
    go true e d f u = omega arith
    go false e true f u = absurd (omega (arith, leb-false r (total ws) e, leb-true q (total ws) f))
    go false e false f true = omega arith
    go false e false f false = omega arith

-- ---- the whole rule

module _ (ks fs us : List ℕ) where
  stages-rise : (k : ℕ) (ss : List ℕ) {r q : ℕ} → r ≤ q → upto k (stages_moves ks fs us ss r) ≤ upto k (stages_moves ks fs us ss q)
  stages-rise k [] h = le_refl _
  stages-rise k (s ∷ ss) {r} {q} h =
      let ws = of_stage s ks fs in
      let es = of_stage s ks us in
      omega (
        arith,
        stage-rises k ws es h,
        stages-rise k ss (left-rises ws es h),
        plus-upto k (stage_moves r ws es) (stages_moves ks fs us ss (stage_left r ws es)),
        plus-upto k (stage_moves q ws es) (stages_moves ks fs us ss (stage_left q ws es)),
      )

  stages-left-rises : (ss : List ℕ) {r q : ℕ} → r ≤ q → stages_left ks fs us ss r ≤ stages_left ks fs us ss q
  stages-left-rises [] h = h
  stages-left-rises (s ∷ ss) h = stages-left-rises ss (left-rises (of_stage s ks fs) (of_stage s ks us) h)

module _ (ks fs : List ℕ) where
  back-rises : (k : ℕ) (ss : List ℕ) {r q : ℕ} → r ≤ q → upto k (back_moves ks fs ss r) ≤ upto k (back_moves ks fs ss q)
  back-rises k [] h = le_refl _
  back-rises k (s ∷ ss) {r} {q} h = go (ltb 0 (total (of_stage s ks fs))) (back-rises k ss h)
    where
      go : (b : Bool) → upto k (back_moves ks fs ss r) ≤ upto k (back_moves ks fs ss q)
          → upto k (cond b (shares r (of_stage s ks fs)) (back_moves ks fs ss r)) ≤ upto k (cond b (shares q (of_stage s ks fs)) (back_moves ks fs ss q))
      go true i = shares-rise k (of_stage s ks fs) h
      go false i = i

-- RISES: a wider gap gives the first k sides at least as much
pub rises_by : (ss : List ℕ) (back : Bool) (ks fs us : List ℕ) (k : ℕ) {r q : ℕ} → r ≤ q
    → upto k (moves_by ss back ks fs us r) ≤ upto k (moves_by ss back ks fs us q)
unfolding moves_by
rises_by ss true ks fs us k {r} {q} h =
    let a = stages_left ks fs us ss r in
    let b = stages_left ks fs us ss q in
    omega (
      arith,
      stages-rise ks fs us k ss h,
      back-rises ks fs k ss (stages-left-rises ks fs us ss h),
      plus-upto k (stages_moves ks fs us ss r) (back_moves ks fs ss a),
      plus-upto k (stages_moves ks fs us ss q) (back_moves ks fs ss b),
    )
rises_by ss false ks fs us k {r} {q} h =
    omega (arith, stages-rise ks fs us k ss h, plus-upto k (stages_moves ks fs us ss r) (still ks), plus-upto k (stages_moves ks fs us ss q) (still ks))

-- on a line of glyphs, in both editions
pub line-rises : (back : Bool) (gs : List Glyph) (k : ℕ) {r q : ℕ} → r ≤ q → upto k (line_moves back gs r) ≤ upto k (line_moves back gs q)
unfolding line_moves
line-rises back gs k h = rises_by stages back (side_stages gs) (side_factors gs) (side_extras gs) k h

-- ---- the sides up to a glyph's own

-- all movements ahead of glyph i and its own before movement; and its after movement too
pub upto_left : (i : ℕ) (l : List ℕ) → upto (i + i + 1) l ≡ upto i (evens l) + upto i (odds l) + get_or (evens l) i 0
upto_left zero [] = refl
upto_left zero (x ∷ []) = omega arith
upto_left zero (x ∷ y ∷ l) = omega arith
upto_left (suc i) [] = let e : suc i + suc i + 1 ≡ suc (suc (suc (i + i))) = omega arith in rw e
upto_left (suc i) (x ∷ []) = let e : suc i + suc i + 1 ≡ suc (suc (suc (i + i))) = omega arith in rw e (one i)
  where
    one : (i : ℕ) → x + 0 ≡ x + upto i [] + 0 + get_or [] i 0
    one zero = omega arith
    one (suc i) = omega arith
upto_left (suc i) (x ∷ y ∷ l) = let e : suc i + suc i + 1 ≡ suc (suc (i + i + 1)) = omega arith in rw e (omega (arith, upto_left i l))

pub upto-right : (i : ℕ) (l : List ℕ) → upto (i + i + 2) l ≡ upto i (evens l) + upto i (odds l) + get_or (evens l) i 0 + get_or (odds l) i 0
upto-right zero [] = refl
upto-right zero (x ∷ []) = omega arith
upto-right zero (x ∷ y ∷ l) = omega arith
upto-right (suc i) [] = let e : suc i + suc i + 2 ≡ suc (suc (suc (suc (i + i)))) = omega arith in rw e
upto-right (suc i) (x ∷ []) = let e : suc i + suc i + 2 ≡ suc (suc (suc (suc (i + i)))) = omega arith in rw e (one i)
  where
    one : (i : ℕ) → x + 0 ≡ x + upto i [] + 0 + get_or [] i 0 + 0
    one zero = omega arith
    one (suc i) = omega arith
upto-right (suc i) (x ∷ y ∷ l) = let e : suc i + suc i + 2 ≡ suc (suc (i + i + 2)) = omega arith in rw e (omega (arith, upto-right i l))
