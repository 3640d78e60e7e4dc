-- What stands at an index of a list of a function's values, and what holds of all of them.
use Prim.Native.Nat.{ℕ, zero, suc, ◌+◌, ◌≤◌, ◌<◌}
use mathlib.Core.Path.{◌≡◌, refl, ap, ◌∙◌}
use mathlib.Core.Option.{none, some}
use native.Mathlib.Omega.{arith}
use lib.ListN.{length, get_or, get_elem?}
use Rattle.encoding.specs.Codes.{All}
use Rattle.encoding.specs.Upto.{from, upto}

module _ {A : Type 0} (f : ℕ → A) where
  pub length_from : (n i : ℕ) → length (from f n i) ≡ n
  unfolding from
  length_from zero i = refl
  length_from (suc n) i = ap suc (length_from n (suc i))

  at_suc : (i k : ℕ) → suc i + k ≡ i + suc k
  at_suc i k = omega arith

  pub get_or-from : (n i k : ℕ) (z : A) → k < n → get_or (from f n i) k z ≡ f (i + k)
  unfolding from
  get_or-from zero i k z h = absurd (omega arith)
  get_or-from (suc n) i zero z h = let e : i ≡ i + 0 = omega arith in ap f e
  get_or-from (suc n) i (suc k) z h = get_or-from n (suc i) k z (omega arith) ∙ ap f (at_suc i k)

  pub elem-from : (n i k : ℕ) → k < n → get_elem? (from f n i) k ≡ some (f (i + k))
  unfolding from
  elem-from zero i k h = absurd (omega arith)
  elem-from (suc n) i zero h = let e : i ≡ i + 0 = omega arith in ap (λ (x : ℕ). some (f x)) e
  elem-from (suc n) i (suc k) h = elem-from n (suc i) k (omega arith) ∙ ap (λ (x : ℕ). some (f x)) (at_suc i k)

  pub elem_past : (n i k : ℕ) → n ≤ k → get_elem? (from f n i) k ≡ none
  unfolding from
  elem_past zero i k h = refl
  elem_past (suc n) i zero h = absurd (omega arith)
  elem_past (suc n) i (suc k) h = elem_past n (suc i) k (omega arith)

  pub get_or-upto : (n k : ℕ) (z : A) → k < n → get_or (upto f n) k z ≡ f k
  get_or-upto n k z h = let e : 0 + k ≡ k = omega arith in get_or-from n 0 k z h ∙ ap f e

  pub elem-upto : (n k : ℕ) → k < n → get_elem? (upto f n) k ≡ some (f k)
  elem-upto n k h = let e : 0 + k ≡ k = omega arith in elem-from n 0 k h ∙ ap (λ (x : ℕ). some (f x)) e

  pub all_from : (P : A → Type 0) (n i : ℕ) → ((k : ℕ) → i ≤ k → k < i + n → P (f k)) → All P (from f n i)
  unfolding from
  all_from P zero i h = tt
  all_from P (suc n) i h = (h i (omega arith) (omega arith), all_from P n (suc i) (λ k a b. h k (omega arith) (omega arith)))

  pub all-upto : (P : A → Type 0) (n : ℕ) → ((k : ℕ) → k < n → P (f k)) → All P (upto f n)
  all-upto P n h = all_from P n 0 (λ k a b. h k (omega arith))
