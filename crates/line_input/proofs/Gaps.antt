-- The advances' sum, in whole numbers without sign, and the gap.
use Prim.Native.Nat.{ℕ, zero, suc, ◌+◌, ◌-◌, ◌≤◌, ◌<◌, zero-le}
use mathlib.Core.Path.{◌≡◌, refl, ap, ap₂, ◌∙◌}
use mathlib.Core.Bool.{Bool, true, false, cond, ◌&&◌}
use Rattle.std.proofs.Common.{Option, Some, None}
use mathlib.Core.List.{List, [], ◌∷◌}
use native.Mathlib.Omega.{arith}
use native.Mathlib.Nat.{zero-add}
use lib.Dec.{leb, ltb}
use lib.IntN.{ℤ, pos, negsuc, nat_abs, ◌+ℤ◌, ◌-ℤ◌}
use borrow.Author.Tests.{le-leb, lt-leb, leb-true, leb-false}
use Rattle.units.specs.declared.Units.{Units}
use Rattle.share.specs.Line.{sumℤ}
use Rattle.line_rule.specs.Line.{Line, gap_of}
use Rattle.units.specs.Fixed.{in_units}
use Rattle.line_input.specs.Input.{within, none_negative}
use Rattle.line_input.specs.Steps.{sum_in, gap_in}
use Rattle.line_input.proofs.Tests.{and_right}

-- ---- the sum

-- added to k one by one, as long as none is negative and the sum stays within the most
abbrev pub added : ℕ → List ℤ → Option Units
added k [] = Some (in_units (pos k))
added k (pos a ∷ rest) = cond (leb (k + a) 1073741823) (added (k + a) rest) None
added k (negsuc a ∷ rest) = None

-- the sum of what is not negative
sizes : List ℤ → ℕ
sizes [] = 0
sizes (a ∷ rest) = nat_abs a + sizes rest

sum-sizes : (xs : List ℤ) → none_negative xs ≡ true → sumℤ xs ≡ pos (sizes xs)
unfolding sizes
sum-sizes [] e = refl
sum-sizes (pos a ∷ rest) e = ap (λ (z : ℤ). pos a +ℤ z) (sum-sizes rest (and_right (leb 0 a) (none_negative rest) e))
sum-sizes (negsuc a ∷ rest) e = cc

-- the same with k more
abbrev sum_from : ℕ → List ℤ → Option Units
sum_from k xs = cond (none_negative xs && leb (k + sizes xs) 1073741823) (Some (in_units (pos (k + sizes xs)))) None

sum_is : (xs : List ℤ) → sum_in xs ≡ sum_from 0 xs
sum_is xs = go (none_negative xs) refl
  where
    go : (b : Bool) → none_negative xs ≡ b
        → cond (b && within (sumℤ xs)) (Some (in_units (sumℤ xs))) None ≡ cond (b && leb (0 + sizes xs) 1073741823) (Some (in_units (pos (0 + sizes xs)))) None
    go false e = refl
    go true e = rw (sum-sizes xs e, zero-add (sizes xs), le-leb 0 (sizes xs) zero-le)

from-added : (k : ℕ) (xs : List ℤ) → k ≤ 1073741823 → sum_from k xs ≡ added k xs
unfolding sizes
from-added k [] h = let e : k + 0 ≡ k = omega arith in rw (e, le-leb k 1073741823 h)
from-added k (negsuc a ∷ rest) h = refl
from-added k (pos a ∷ rest) h = regroup ∙ go (leb (k + a) 1073741823) refl (from-added (k + a) rest)
  where
    regroup : sum_from k (pos a ∷ rest) ≡ sum_from (k + a) rest
    regroup =
        let e : k + (a + sizes rest) ≡ k + a + sizes rest = omega arith in
        ap₂ (λ (b : Bool) (x : ℕ). cond ((b && none_negative rest) && leb x 1073741823) (Some (in_units (pos x))) None) (le-leb 0 a zero-le) e

    over : (b : Bool) → 1073741823 < k + a → cond (b && leb (k + a + sizes rest) 1073741823) (Some (in_units (pos (k + a + sizes rest)))) None ≡ None
    over true l = rw (lt-leb (k + a + sizes rest) 1073741823 (omega arith))
    over false l = refl

    go : (b : Bool) → leb (k + a) 1073741823 ≡ b → (k + a ≤ 1073741823 → sum_from (k + a) rest ≡ added (k + a) rest)
        → sum_from (k + a) rest ≡ cond b (added (k + a) rest) None
    go true e ih = ih (leb-true _ _ e)
    go false e ih = over (none_negative rest) (leb-false _ _ e)

pub added_start : (xs : List ℤ) → sum_in xs ≡ added 0 xs
added_start xs = sum_is xs ∙ from-added 0 xs (omega arith)

-- ---- the gap

-- what is within the most is a number that is not negative
pub within-most : (z : ℤ) → within z ≡ true → (a : ℕ) × (z ≡ pos a) × (a ≤ 1073741823)
within-most (pos a) e = (a, refl, leb-true a 1073741823 (and_right (leb 0 a) (leb a 1073741823) e))
within-most (negsuc a) e = cc

-- and so is the size of what two such lie apart
pub apart : (t s : ℕ) → t ≤ 1073741823 → s ≤ 1073741823 → nat_abs (pos t -ℤ pos s) ≤ 1073741823
apart t zero h k = omega arith
apart t (suc s) h k = go (ltb t (suc s))
  where
    go : (b : Bool) → nat_abs (cond b (negsuc (suc s - suc t)) (pos (t - suc s))) ≤ 1073741823
    go true = omega arith
    go false = omega arith

-- the gap by the advances' sum, where there is one
abbrev pub gap_from : ℤ → Option Units → Option Units
gap_from target None = None
gap_from target (Some s) = cond (within target) (Some (in_units (target -ℤ s.0))) None

pub gap_by_sum : (l : Line) → gap_in l ≡ gap_from l.target (sum_in l.advances)
unfolding gap_in gap_of
gap_by_sum l = go (none_negative l.advances && within (sumℤ l.advances))
  where
    go : (b : Bool) → cond (b && within l.target) (Some (in_units (l.target -ℤ sumℤ l.advances))) None ≡ gap_from l.target (cond b (Some (in_units (sumℤ l.advances))) None)
    go true = refl
    go false = refl
