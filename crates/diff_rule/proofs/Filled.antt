-- Places one after the other, counted and stored by stretches.
use Prim.Native.Nat.{ℕ, ◌+◌, ◌-◌, ◌≤◌, ◌<◌}
use mathlib.Core.Path.{◌≡◌, sym, ap, ap₂, ◌∙◌}
use mathlib.Core.List.{List, [], ◌++◌, append-nil}
use native.Mathlib.Omega.{arith}
use Rattle.diff_rule.specs.declared.Difference.{Difference}
use Rattle.diff_rule.specs.Differences.{through}
use Rattle.diff_rule.specs.Order.{Stores}
use Rattle.diff_rule.proofs.Stored.{stores-none, stores-two, stores-other}
use Rattle.diff_rule.proofs.Through.{split, pass-over, from_start}

module _ (f : ℕ → List Difference) where
  through-one : (n g : ℕ) → n ≡ 1 → through f n g ≡ f g
  unfolding through
  through-one n g e = ap (λ (k : ℕ). through f k g) e ∙ append-nil (f g)

  -- up to e by way of g
  pub through-by : (g₀ g e : ℕ) → g₀ ≤ g → g ≤ e → through f (e - g₀) g₀ ≡ through f (g - g₀) g₀ ++ through f (e - g) g
  through-by g₀ g e h k =
      let n : e - g₀ ≡ (g - g₀) + (e - g) = omega arith in
      let i : g₀ + (g - g₀) ≡ g = omega arith in
      ap (λ (m : ℕ). through f m g₀) n ∙ split f (g - g₀) (e - g) g₀ ∙ ap (λ (m : ℕ). through f (g - g₀) g₀ ++ through f (e - g) m) i

  -- places that are all there is to n of them
  pub through-within : (n g e : ℕ) → g ≤ e → e ≤ n → ((x : ℕ) → x < g → f x ≡ []) → ((x : ℕ) → e ≤ x → x < n → f x ≡ []) → through f n 0 ≡ through f (e - g) g
  through-within n g e h k low high =
      sym (from_start f n) ∙ through-by 0 g n (omega arith) (omega arith)
      ∙ ap₂ (λ (x y : List Difference). x ++ y) (pass-over f (g - 0) 0 (λ x a b. low x (omega arith)))
      (through-by g e n h k ∙ ap (λ (l : List Difference). through f (e - g) g ++ l) (pass-over f (n - e) e (λ x a b. high x a (omega arith))) ∙ append-nil (through f (e - g) g))

  -- those of the places from g₀ on and before g are stored from `to` on, up to `at`
  pub record Filled (l₀ l : List ℕ) (to at g₀ g : ℕ) : Type 0 where
    pub stores : Stores l₀ l to at (through f (g - g₀) g₀)

  pub filled_none : (l₀ : List ℕ) (to g : ℕ) → Filled l₀ l₀ to to g g
  unfolding through
  filled_none l₀ to g =
      let z : 0 ≡ g - g = omega arith in
      record { stores = stores-other l₀ l₀ to to [] _ (ap (λ (m : ℕ). through f m g) z) (stores-none l₀ to) }

  -- a stretch more
  pub filled_more : (l₀ l l₁ : List ℕ) (to at at₁ g₀ g e : ℕ) → g₀ ≤ g → g ≤ e → Filled l₀ l to at g₀ g → Stores l l₁ at at₁ (through f (e - g) g)
      → Filled l₀ l₁ to at₁ g₀ e
  filled_more l₀ l l₁ to at at₁ g₀ g e h k w s = record {
    stores = stores-other l₀ l₁ to at₁ _ _ (sym (through-by g₀ g e h k)) (stores-two (through f (g - g₀) g₀) (through f (e - g) g) l₀ l l₁ to at at₁ w.stores s);
  }

  -- a place more
  pub filled_next : (l₀ l l₁ : List ℕ) (to at at₁ g₀ g : ℕ) → g₀ ≤ g → Filled l₀ l to at g₀ g → Stores l l₁ at at₁ (f g) → Filled l₀ l₁ to at₁ g₀ (g + 1)
  filled_next l₀ l l₁ to at at₁ g₀ g h w s =
      let o : g + 1 - g ≡ 1 = omega arith in
      filled_more l₀ l l₁ to at at₁ g₀ g (g + 1) h (omega arith) w (stores-other l l₁ at at₁ (f g) _ (sym (through-one (g + 1 - g) g o)) s)

  -- all of them
  pub filled-all : (l₀ l : List ℕ) (to at g₀ g e : ℕ) (xs : List Difference) → g ≡ e → through f (e - g₀) g₀ ≡ xs → Filled l₀ l to at g₀ g → Stores l₀ l to at xs
  filled-all l₀ l to at g₀ g e xs q whole w = stores-other l₀ l to at _ xs (ap (λ (k : ℕ). through f (k - g₀) g₀) q ∙ whole) w.stores
