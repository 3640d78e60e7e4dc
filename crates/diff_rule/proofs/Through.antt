-- Places one after the other, for code that goes by stretches of them: a stretch is split off, a stretch without differences is passed over, and a stretch in
-- which each place has as many differences is counted by a product.
use Prim.Native.Nat.{ℕ, zero, suc, ◌+◌, ◌-◌, ◌≤◌, ◌<◌}
use mathlib.Core.Path.{◌≡◌, refl, sym, ap, ap₂, ◌∙◌}
use mathlib.Core.List.{List, [], ◌++◌, append_assoc}
use native.Mathlib.Omega.{arith}
use Rattle.diff_rule.specs.declared.Difference.{Difference}
use Rattle.diff_rule.specs.Differences.{through}

-- places that have the same, one by one
pub through_same : (f f' : ℕ → List Difference) (n i : ℕ) → ((x : ℕ) → i ≤ x → x < i + n → f x ≡ f' x) → through f n i ≡ through f' n i
unfolding through
through_same f f' zero i h = refl
through_same f f' (suc n) i h =
    ap₂ (λ (x y : List Difference). x ++ y) (h i (omega arith) (omega arith)) (through_same f f' n (suc i) (λ k a b. h k (omega arith) (omega arith)))

module _ (f : ℕ → List Difference) where
  pub split : (a b i : ℕ) → through f (a + b) i ≡ (through f a i ++ through f b (i + a))
  unfolding through
  split zero b i =
      let x : 0 + b ≡ b = omega arith in
      let y : i ≡ i + 0 = omega arith in
      ap₂ (λ (n k : ℕ). through f n k) x y
  split (suc a) b i =
      let x : suc a + b ≡ suc (a + b) = omega arith in
      let y : suc i + a ≡ i + suc a = omega arith in
      ap (λ (n : ℕ). through f n i) x
      ∙ ap (λ (l : List Difference). f i ++ l) (split a b (suc i) ∙ ap (λ (k : ℕ). through f a (suc i) ++ through f b k) y)
      ∙ sym (append_assoc (f i) (through f a (suc i)) (through f b (i + suc a)))

  pub pass-over : (n i : ℕ) → ((k : ℕ) → i ≤ k → k < i + n → f k ≡ []) → through f n i ≡ []
  unfolding through
  pass-over zero i h = refl
  pass-over (suc n) i h =
      ap₂ (λ (x y : List Difference). x ++ y) (h i (omega arith) (omega arith)) (pass-over n (suc i) (λ k a b. h k (omega arith) (omega arith)))

  -- k places without a difference, of n
  pub skip : (k n i m j : ℕ) → k ≤ n → m ≡ n - k → j ≡ i + k → ((p : ℕ) → i ≤ p → p < i + k → f p ≡ []) → through f n i ≡ through f m j
  skip k n i m j h e q none =
      let x : n ≡ k + m = omega arith in
      ap (λ (l : ℕ). through f l i) x ∙ split k m i
      ∙ ap₂ (λ (l : List Difference) (p : ℕ). l ++ through f m p) (pass-over k i none) (sym q)

  -- from the first place on
  pub from_start : (n : ℕ) → through f (n - 0) 0 ≡ through f n 0
  from_start n = let e : n - 0 ≡ n = omega arith in ap (λ (k : ℕ). through f k 0) e
