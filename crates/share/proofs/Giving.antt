-- The loops that hand an amount out, side by side: the weights of a stage's sides, and what holds at each turn.
use mathlib.Core.Path.{◌≡◌, refl, sym, ap, ◌∙◌}
use mathlib.Core.Bool.{Bool, true, false, cond}
use mathlib.Core.List.{List, [], ◌∷◌}
use Prim.Native.Nat.{ℕ, zero, suc, ◌+◌, ◌^◌, ◌≤◌, ◌<◌}
use native.Mathlib.Omega.{arith}
use native.Mathlib.Nat.{not-suc-le-zero, le_of_suc-le-suc}
use native.Mathlib.Numerals.{add-one}
use lib.ListN.{length, take, get_or, set, length-set, length-map, get_or-map}
use lib.Seq.{take_all}
use borrow.Author.Tests.{ne_eqb}
use Rattle.share.specs.Share.{total, plus, of_stage, shares, most_total}
use Rattle.share.specs.Carry.{widest}
use Rattle.share.specs.Inner.{Runs, CanCarry, Stepped}
use Rattle.share.specs.Sides.{stage_in, extra_in, stages_in, extras_in, factors_at, extras_at, weights_at}
use Rattle.share.specs.declared.Running.{Running}
use Rattle.share.proofs.Lists.{upto, upto_next, upto_le, plus-nothing, total-plus, get_or-le-total, length-of_stage, of_stage-hit, of_stage-miss, get_or-shares, shares-none, length-shares, total-shares}
use Rattle.share.proofs.Runs.{ready}

-- ---- the weights of a stage's sides

pub length-extras_at : (s : ℕ) (sides : List ℕ) → length (extras_at s sides) ≡ length sides
length-extras_at s sides = length-of_stage s (length sides) (stages_in sides) (extras_in sides) (length-map sides stage_in) (length-map sides extra_in)

pub length-factors_at : (s : ℕ) (sides factors : List ℕ) → length factors ≡ length sides → length (factors_at s sides factors) ≡ length sides
length-factors_at s sides factors p = length-of_stage s (length sides) (stages_in sides) factors (length-map sides stage_in) p

pub length-weights_at : (extras : Bool) (s : ℕ) (sides factors : List ℕ) → length factors ≡ length sides → length (weights_at extras s sides factors) ≡ length sides
length-weights_at true s sides factors p = length-extras_at s sides
length-weights_at false s sides factors p = length-factors_at s sides factors p

-- side i is of the stage, or of another one; `m` is its stage priority as the code has it
module _ (s : ℕ) (sides : List ℕ) (i : ℕ) {m : ℕ} (e : m ≡ stage_in (get_or sides i 0)) where
  hit-at : m ≡ s → get_or (stages_in sides) i 0 ≡ s
  hit-at h = get_or-map stage_in sides i 0 ∙ sym e ∙ h

  within : i < length sides → i < length (stages_in sides)
  within l = omega (arith, length-map sides stage_in)

  pub extra-hit : i < length sides → m ≡ s → get_or (extras_at s sides) i 0 ≡ extra_in (get_or sides i 0)
  extra-hit l h = of_stage-hit s i (stages_in sides) (extras_in sides) (within l) (hit-at h) ∙ get_or-map extra_in sides i 0

  pub factor-hit : (factors : List ℕ) → i < length sides → m ≡ s → get_or (factors_at s sides factors) i 0 ≡ get_or factors i 0
  factor-hit factors l h = of_stage-hit s i (stages_in sides) factors (within l) (hit-at h)

  pub weight-hit : (extras : Bool) (factors : List ℕ) → i < length sides → m ≡ s → get_or (weights_at extras s sides factors) i 0 ≡ cond extras (extra_in (get_or sides i 0)) (get_or factors i 0)
  weight-hit true factors l h = extra-hit l h
  weight-hit false factors l h = factor-hit factors l h

  miss : (vs : List ℕ) → (m ≡ s → ⊥) → get_or (of_stage s (stages_in sides) vs) i 0 ≡ 0
  miss vs h = of_stage-miss s 0 i (stages_in sides) vs (ne_eqb _ _ (λ q. h (e ∙ sym (get_or-map stage_in sides i 0) ∙ q)))

  pub extra-miss : (m ≡ s → ⊥) → get_or (extras_at s sides) i 0 ≡ 0
  extra-miss h = miss (extras_in sides) h

  pub factor-miss : (factors : List ℕ) → (m ≡ s → ⊥) → get_or (factors_at s sides factors) i 0 ≡ 0
  factor-miss factors h = miss factors h

  pub weight-miss : (extras : Bool) (factors : List ℕ) → (m ≡ s → ⊥) → get_or (weights_at extras s sides factors) i 0 ≡ 0
  weight-miss true factors h = extra-miss h
  weight-miss false factors h = factor-miss factors h

-- ---- a loop that adds to a slice, side by side

-- of what is to be added to out₀, the first i have been added
pub record Added (ws out₀ out : List ℕ) (i : ℕ) : Type 0 where
  pub same : length out ≡ length out₀
  pub is : out ≡ plus out₀ (take i ws)

plus-next : (out ws : List ℕ) (i : ℕ) → i < length out → i < length ws
    → set (plus out (take i ws)) i (get_or (plus out (take i ws)) i 0 + get_or ws i 0) ≡ plus out (take (suc i) ws)
plus-next [] ws i h k = absurd (not-suc-le-zero h)
plus-next (x ∷ out) [] i h k = absurd (not-suc-le-zero k)
plus-next (x ∷ out) (w ∷ ws) zero h k = ap (λ (l : List ℕ). (x + w) ∷ l) (sym (plus-nothing out [] refl (omega arith)))
plus-next (x ∷ out) (w ∷ ws) (suc i) h k = ap (λ (l : List ℕ). (x + w) ∷ l) (plus-next out ws i (le_of_suc-le-suc h) (le_of_suc-le-suc k))

plus_none : (out ws : List ℕ) (i : ℕ) → i < length out → get_or ws i 0 ≡ 0 → plus out (take (suc i) ws) ≡ plus out (take i ws)
plus_none [] ws i h e = absurd (not-suc-le-zero h)
plus_none (x ∷ out) [] zero h e = refl
plus_none (x ∷ out) [] (suc i) h e = refl
plus_none (x ∷ out) (w ∷ ws) zero h e =
    let z : x + w ≡ x = omega arith in
    rw (z, plus-nothing out [] refl (omega arith))
plus_none (x ∷ out) (w ∷ ws) (suc i) h e = ap (λ (l : List ℕ). (x + w) ∷ l) (plus_none out ws i (le_of_suc-le-suc h) e)

module _ {ws out₀ out : List ℕ} {i : ℕ} (a : Added ws out₀ out i) where
  -- a side that gets x, and one that gets nothing
  pub added-on : (x : ℕ) → i < length out₀ → i < length ws → x ≡ get_or ws i 0 → Added ws out₀ (set out i (get_or out i 0 + x)) (i + 1)
  added-on x h k e = record {
    same = simp length-set a.same;
    is = rw (add-one, e, a.is) (plus-next out₀ ws i h k);
  }

  pub added_none : i < length out₀ → get_or ws i 0 ≡ 0 → Added ws out₀ out (i + 1)
  added_none h e = record { same = a.same; is = a.is ∙ rw (add-one) (sym (plus_none out₀ ws i h e)) }

  pub added-end : length ws ≤ i → out ≡ plus out₀ ws
  added-end h = a.is ∙ ap (plus out₀) (take_all i ws h)

  -- what is added fits
  pub added-fits : total out₀ + total ws < 2 ^ 63 → get_or out i 0 + get_or ws i 0 < 2 ^ 63
  added-fits b = omega (arith, b, get_or-le-total out i, ap total a.is ∙ total-plus out₀ (take i ws), upto_le i ws)

pub added-start : (ws out₀ : List ℕ) → Added ws out₀ out₀ 0
added-start ws out₀ = record { same = refl; is = sym (plus-nothing out₀ [] refl (omega arith)) }

-- ---- shares by weights

-- side i is next
pub record Giving (r : ℕ) (ws out₀ : List ℕ) (run : Running) (out : List ℕ) (i : ℕ) : Type 0 where
  pub runs : Runs r (total ws) (upto i ws) run
  pub added : Added (shares r ws) out₀ out i

module _ {r : ℕ} {ws out₀ : List ℕ} {run : Running} {out : List ℕ} {i : ℕ} (g : Giving r ws out₀ run out i) where
  -- a side of the stage, of weight w
  module _ {w : ℕ} (e : get_or ws i 0 ≡ w) where
    pub giving-ready : r ≤ 1073741823 → total ws ≤ most_total → 0 < total ws → w ≤ widest → CanCarry run w
    giving-ready h k p n = ready w g.runs h k p (omega (arith, upto_le i ws)) n

    module _ {x : ℕ} {next : Running} (f : Stepped run w x next) where
      share-is : x ≡ get_or (shares r ws) i 0
      share-is = rw (sym e) at (f.share r (total ws) (upto i ws) g.runs) ∙ sym (get_or-shares r i ws)

      pub giving-fits : 0 < total ws → total out₀ + r < 2 ^ 63 → get_or out i 0 + x < 2 ^ 63
      giving-fits p b = omega (arith, share-is, added-fits g.added (omega (arith, total-shares r ws p)))

      pub giving-on : i < length out₀ → i < length ws → Giving r ws out₀ next (set out i (get_or out i 0 + x)) (i + 1)
      giving-on h k = record {
        runs = rw (upto_next i ws, e) (f.next r (total ws) (upto i ws) g.runs);
        added = added-on g.added x h (omega (arith, length-shares r ws)) share-is;
      }

  -- a side of another stage
  pub giving-none : i < length out₀ → get_or ws i 0 ≡ 0 → Giving r ws out₀ run out (i + 1)
  giving-none h e =
      let z : upto (i + 1) ws ≡ upto i ws = omega (arith, upto_next i ws) in
      record { runs = rw z g.runs; added = added_none g.added h (shares-none r i ws e) }

  pub giving-end : length ws ≤ i → out ≡ plus out₀ (shares r ws)
  giving-end h = added-end g.added (omega (arith, length-shares r ws))

pub giving-start : (r : ℕ) {t : ℕ} (ws out₀ : List ℕ) {run : Running} → t ≡ total ws → Runs r t 0 run → Giving r ws out₀ run out₀ 0
giving-start r ws out₀ e h = record { runs = rw e at h; added = added-start (shares r ws) out₀ }
