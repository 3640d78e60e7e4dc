-- The staged rule (document 01, "Sharing the gap", and refusal 15; stage 3 by document 02, request 2/14), on sizes: numbers of units without signs.
-- Edition 1 of the rule has step 3; edition 2 stops at the limits, without it (document 02, request 7/14).
-- The sides of a line stand in line order, a glyph's before side ahead of its after side. Three lists say of each side its stage priority, its factor, and
-- its extra weight: 1 on the after side of an unlimited glyph, else 0.
use Rattle.std.specs.Prelude.{ℕ, ◌+◌, ◌-◌, ◌*◌, ◌/◌, Bool, true, false, cond, ◌&&◌, ◌||◌, List, [], ◌∷◌, map, leb, ltb, eqb}

-- the stages in their order
unfoldable pub stages : List ℕ
stages = 0 ∷ 1 ∷ 2 ∷ 3 ∷ []

-- the stage priority of a side that takes no part; no stage
abbrev pub no_part : ℕ
no_part = 15

-- ---- lists of sizes, one for each side

abbrev pub total : List ℕ → ℕ
total [] = 0
total (x ∷ xs) = x + total xs

-- nothing for each side
abbrev pub still : List ℕ → List ℕ
still = map (λ (x : ℕ). 0)

-- side by side, of two lists of one length
abbrev pub plus : List ℕ → List ℕ → List ℕ
plus [] ys = ys
plus (x ∷ xs) [] = x ∷ xs
plus (x ∷ xs) (y ∷ ys) = (x + y) ∷ plus xs ys

-- of values, those of the sides of a stage, 0 at the others
abbrev pub of_stage : ℕ → List ℕ → List ℕ → List ℕ
of_stage s [] vs = []
of_stage s (k ∷ ks) [] = []
of_stage s (k ∷ ks) (v ∷ vs) = cond (eqb k s) v 0 ∷ of_stage s ks vs

-- ---- one stage

-- step 1's formula: of r, a side's part of the total t is what stands at its running total less what stands at the side ahead of it, whose running
-- total is c. With t = 0 every side's part is nothing: the two terms are one number
abbrev pub share_at : ℕ → ℕ → ℕ → ℕ → ℕ
share_at r t c w = r * (c + w) / t - r * c / t

abbrev pub shares_from : ℕ → ℕ → ℕ → List ℕ → List ℕ
shares_from r t c [] = []
shares_from r t c (w ∷ ws) = share_at r t c w ∷ shares_from r t (c + w) ws

unfoldable pub shares : ℕ → List ℕ → List ℕ
shares r ws = shares_from r (total ws) 0 ws

-- steps 1 and 2, with r left, the stage's factors ws and its extra weights us: the movements, and what is left after them
unfoldable pub stage_moves : ℕ → List ℕ → List ℕ → List ℕ
stage_moves r ws us = cond (leb r (total ws)) (shares r ws) (plus ws (shares (r - total ws) us))

unfoldable pub stage_left : ℕ → List ℕ → List ℕ → ℕ
stage_left r ws us = cond (leb r (total ws)) 0 (cond (ltb 0 (total us)) 0 (r - total ws))

-- ---- the whole rule

module _ (ks fs us : List ℕ) where
  -- the stages in turn, with r left
  abbrev pub stages_moves : List ℕ → ℕ → List ℕ
  stages_moves [] r = still ks
  stages_moves (s ∷ ss) r =
      plus (stage_moves r (of_stage s ks fs) (of_stage s ks us)) (stages_moves ss (stage_left r (of_stage s ks fs) (of_stage s ks us)))

  abbrev pub stages_left : List ℕ → ℕ → ℕ
  stages_left [] r = r
  stages_left (s ∷ ss) r = stages_left ss (stage_left r (of_stage s ks fs) (of_stage s ks us))

module _ (ks fs : List ℕ) where
  -- step 3: what is left, r, over the first stage with a total above 0; with no such stage it stays left
  abbrev pub back_moves : List ℕ → ℕ → List ℕ
  back_moves [] r = still ks
  back_moves (s ∷ ss) r = cond (ltb 0 (total (of_stage s ks fs))) (shares r (of_stage s ks fs)) (back_moves ss r)

  abbrev pub back_left : List ℕ → ℕ → ℕ
  back_left [] r = r
  back_left (s ∷ ss) r = cond (ltb 0 (total (of_stage s ks fs))) 0 (back_left ss r)

-- over any list of stages, with step 3 or without it
module _ (ss : List ℕ) (back : Bool) (ks fs us : List ℕ) where
  unfoldable pub moves_by : ℕ → List ℕ
  moves_by gap = plus (stages_moves ks fs us ss gap) (cond back (back_moves ks fs ss (stages_left ks fs us ss gap)) (still ks))

  unfoldable pub left_by : ℕ → ℕ
  left_by gap = cond back (back_left ks fs ss (stages_left ks fs us ss gap)) (stages_left ks fs us ss gap)

-- the movements of the sides, and what no side takes; `back` says whether what the stages leave goes back, by step 3
abbrev pub movements : Bool → List ℕ → List ℕ → List ℕ → ℕ → List ℕ
movements = moves_by stages

abbrev pub remainder : Bool → List ℕ → List ℕ → List ℕ → ℕ → ℕ
remainder = left_by stages

-- ---- refusal 15

-- the most that a stage's total may be
abbrev pub most_total : ℕ
most_total = 8589934592

-- every one of the stages, reached or not, has at most that
abbrev pub stages_fit : List ℕ → List ℕ → List ℕ → Bool
stages_fit ks fs [] = true
stages_fit ks fs (s ∷ ss) = leb (total (of_stage s ks fs)) most_total && stages_fit ks fs ss

-- ---- when there is a remainder

-- the totals of these stages together
abbrev pub all_total : List ℕ → List ℕ → List ℕ → ℕ
all_total ks fs [] = 0
all_total ks fs (s ∷ ss) = total (of_stage s ks fs) + all_total ks fs ss

-- the priority is one of these stages
abbrev pub among : ℕ → List ℕ → Bool
among k [] = false
among k (s ∷ ss) = eqb k s || among k ss

-- every side of these stages at its full factor, the others at 0
abbrev pub full : List ℕ → List ℕ → List ℕ → List ℕ
full ss [] fs = []
full ss (k ∷ ks) [] = []
full ss (k ∷ ks) (f ∷ fs) = cond (among k ss) f 0 ∷ full ss ks fs

-- the total of each of these stages is 0
abbrev pub empty : List ℕ → List ℕ → List ℕ → Bool
empty ks vs [] = true
empty ks vs (s ∷ ss) = eqb (total (of_stage s ks vs)) 0 && empty ks vs ss
