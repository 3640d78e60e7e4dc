-- The totals of the stages, and refusal 15's test of them.
use mathlib.Core.Path.{◌≡◌, sym, ap, ◌∙◌}
use mathlib.Core.List.{List}
use mathlib.Core.Bool.{true}
use Prim.Native.Nat.{ℕ, zero, suc, ◌+◌, ◌≤◌, ◌<◌}
use native.Mathlib.Omega.{arith}
use native.Mathlib.Numerals.{add-one}
use lib.Dec.{leb}
use lib.ListN.{drop}
use borrow.Author.Tests.{leb-true}
use Rattle.share.specs.Share.{total, most_total, stages, of_stage, stages_fit}
use Rattle.share.specs.Sides.{stages_in, stage_count, totals_fit, TotalsOf, Fit, fits_in}
use Rattle.share.specs.declared.Totals.{Totals}
use Rattle.share.proofs.Theory.{both}
use Rattle.share.proofs.Stages.{at_stage}

-- THE TEST IS THE LINE'S: of the totals of a line's sides it is refusal 15's
pub totals-fit : (ts : Totals) (sides factors : List ℕ) → TotalsOf ts sides factors → totals_fit ts stages ≡ fits_in sides factors
unfolding stages
totals-fit ts sides factors w = rw (w.at 0 (omega arith), w.at 1 (omega arith), w.at 2 (omega arith), w.at 3 (omega arith))

-- where the test is passed, no stage's total is above the most that it may be
module _ (ks fs : List ℕ) where
  split : (s : ℕ) → s < stage_count → stages_fit ks fs (drop s stages) ≡ true → (leb (total (of_stage s ks fs)) most_total ≡ true) × (stages_fit ks fs (drop (s + 1) stages) ≡ true)
  split s h e = both _ _ (sym (ap (stages_fit ks fs) (at_stage s h)) ∙ e)

  tails : (s : ℕ) → s ≤ stage_count → stages_fit ks fs stages ≡ true → stages_fit ks fs (drop s stages) ≡ true
  tails zero h e = e
  tails (suc s) h e = rw (add-one) at (split s h (tails s (omega arith) e)).1

  low : stages_fit ks fs stages ≡ true → (s : ℕ) → s < stage_count → total (of_stage s ks fs) ≤ most_total
  low e s h = leb-true (total (of_stage s ks fs)) most_total (split s h (tails s (omega arith) e)).0

pub fit : {ts : Totals} {sides factors : List ℕ} → TotalsOf ts sides factors → fits_in sides factors ≡ true → Fit ts sides factors
fit {ts} {sides} {factors} w e = record { totals = w; low = λ s h. omega (arith, w.at s h, low (stages_in sides) factors e s h) }
