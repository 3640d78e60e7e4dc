-- The before sides and the after sides of a list over the sides.
use mathlib.Core.Path.{◌≡◌, refl, ap, ◌∙◌}
use mathlib.Core.List.{List, [], ◌∷◌, map}
use Prim.Native.Nat.{ℕ, zero, suc, ◌+◌, ◌*◌, ◌≤◌, ◌<◌}
use native.Mathlib.Omega.{arith}
use lib.ListN.{length, drop, get_or}
use Rattle.share.specs.Share.{total}
use Rattle.share.specs.Line.{evens, odds}
use Rattle.share.proofs.Fill.{map-step, map-past}

pub total-halves : (l : List ℕ) → total (evens l) + total (odds l) ≡ total l
total-halves [] = refl
total-halves (x ∷ []) = omega arith
total-halves (x ∷ y ∷ l) = omega (arith, total-halves l)

pub length-halves : (n : ℕ) (l : List ℕ) → length l ≡ n + n → (length (evens l) ≡ n) × (length (odds l) ≡ n)
length-halves n [] e = (omega arith, omega arith)
length-halves n (x ∷ []) e = absurd (omega arith)
length-halves zero (x ∷ y ∷ l) e = absurd (omega arith)
length-halves (suc n) (x ∷ y ∷ l) e =
    let i = length-halves n l (omega arith) in
    (ap suc i.0, ap suc i.1)

pub get_or-evens : (i : ℕ) (l : List ℕ) → get_or (evens l) i 0 ≡ get_or l (i + i) 0
get_or-evens i [] = refl
get_or-evens zero (x ∷ []) = refl
get_or-evens (suc i) (x ∷ []) = let e : suc i + suc i ≡ suc (suc (i + i)) = omega arith in rw e
get_or-evens zero (x ∷ y ∷ l) = refl
get_or-evens (suc i) (x ∷ y ∷ l) = let e : suc i + suc i ≡ suc (suc (i + i)) = omega arith in rw e (get_or-evens i l)

pub get_or-odds : (i : ℕ) (l : List ℕ) → get_or (odds l) i 0 ≡ get_or l (i + i + 1) 0
get_or-odds i [] = refl
get_or-odds i (x ∷ []) = let e : i + i + 1 ≡ suc (i + i) = omega arith in rw e
get_or-odds zero (x ∷ y ∷ l) = refl
get_or-odds (suc i) (x ∷ y ∷ l) = let e : suc i + suc i + 1 ≡ suc (suc (i + i + 1)) = omega arith in rw e (get_or-odds i l)

-- ---- a loop that fills two slices, of the before sides and of the after sides

module _ {B : Type 0} (f : ℕ → B) (l : List ℕ) (n i : ℕ) (e : length l ≡ 2 * n) where
  each : (length (evens l) ≡ n) × (length (odds l) ≡ n)
  each = length-halves n l (omega arith)

  pub evens-step : i < n → map f (drop i (evens l)) ≡ f (get_or l (i + i) 0) ∷ map f (drop (i + 1) (evens l))
  evens-step h = map-step f (evens l) i (omega (arith, each.0)) ∙ ap (λ (x : ℕ). f x ∷ map f (drop (i + 1) (evens l))) (get_or-evens i l)

  pub odds-step : i < n → map f (drop i (odds l)) ≡ f (get_or l (i + i + 1) 0) ∷ map f (drop (i + 1) (odds l))
  odds-step h = map-step f (odds l) i (omega (arith, each.1)) ∙ ap (λ (x : ℕ). f x ∷ map f (drop (i + 1) (odds l))) (get_or-odds i l)

  pub evens-past : n ≤ i → map f (drop i (evens l)) ≡ []
  evens-past h = map-past f (evens l) i (omega (arith, each.0))

  pub odds-past : n ≤ i → map f (drop i (odds l)) ≡ []
  odds-past h = map-past f (odds l) i (omega (arith, each.1))
