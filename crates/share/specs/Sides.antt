-- The sides of a line as the functions here have them (document 01, "Sharing the gap"): two slices with a number for each side, in line order, a glyph's before side
-- ahead of its after side. The first number is the side's stage priority, with 16 added for its extra weight; the second is its factor. And what is added to the
-- movements, of which a third slice has one for each side.
use Rattle.std.specs.Prelude.{ℕ, ◌+◌, ◌/◌, ◌%◌, ◌≤◌, ◌<◌, ◌^◌, ◌≡◌, Bool, true, cond, ◌&&◌, List, [], ◌∷◌, map, leb, length, get_or}
use Rattle.share.specs.Share.{total, of_stage, stages, most_total, movements, remainder, stages_fit}
use Rattle.share.specs.Line.{Narrow}
use Rattle.share.specs.declared.Totals.{Totals}

-- ---- the first number of a side

abbrev pub stage_in : ℕ → ℕ
stage_in side = side % 16

abbrev pub extra_in : ℕ → ℕ
extra_in side = side / 16

abbrev pub stages_in : List ℕ → List ℕ
stages_in = map stage_in

abbrev pub extras_in : List ℕ → List ℕ
extras_in = map extra_in

-- ---- the sides of a stage

-- their factors, their extra weights, and one or the other
abbrev pub factors_at : ℕ → List ℕ → List ℕ → List ℕ
factors_at s sides factors = of_stage s (stages_in sides) factors

abbrev pub extras_at : ℕ → List ℕ → List ℕ
extras_at s sides = of_stage s (stages_in sides) (extras_in sides)

abbrev pub weights_at : Bool → ℕ → List ℕ → List ℕ → List ℕ
weights_at extras s sides factors = cond extras (extras_at s sides) (factors_at s sides factors)

-- the two slices are of one length, of no more sides than 1,024 glyphs have, and no factor is wider than sharing may multiply
pub record Sides (sides factors : List ℕ) : Type 0 where
  pub equal : length factors ≡ length sides
  pub few : length sides ≤ 2048
  pub narrow : Narrow factors

-- an amount can be added to the movements, of which there is one for each side
pub record Addable (amount : ℕ) (sides moves : List ℕ) : Type 0 where
  pub equal : length moves ≡ length sides
  pub small : amount ≤ 1073741823
  pub room : total moves + amount < 2 ^ 63

-- ---- the totals of the stages

abbrev pub stage_count : ℕ
stage_count = 4

abbrev pub total_at : Totals → ℕ → ℕ
total_at ts s = get_or ts.sums s 0

-- every one of these stages has a total of at most what it may be
abbrev pub totals_fit : Totals → List ℕ → Bool
totals_fit ts [] = true
totals_fit ts (s ∷ ss) = leb (total_at ts s) most_total && totals_fit ts ss

pub record TotalsOf (ts : Totals) (sides factors : List ℕ) : Type 0 where
  pub at : (s : ℕ) → s < stage_count → total_at ts s ≡ total (factors_at s sides factors)

-- these are the totals, and none is above the most that it may be
pub record Fit (ts : Totals) (sides factors : List ℕ) : Type 0 where
  pub totals : TotalsOf ts sides factors
  pub low : (s : ℕ) → s < stage_count → total_at ts s ≤ most_total

-- ---- the whole rule on these slices

abbrev pub moves_in : Bool → List ℕ → List ℕ → ℕ → List ℕ
moves_in back sides factors gap = movements back (stages_in sides) factors (extras_in sides) gap

abbrev pub left_in : Bool → List ℕ → List ℕ → ℕ → ℕ
left_in back sides factors gap = remainder back (stages_in sides) factors (extras_in sides) gap

-- refusal 15 does not bar the line
abbrev pub fits_in : List ℕ → List ℕ → Bool
fits_in sides factors = stages_fit (stages_in sides) factors stages
