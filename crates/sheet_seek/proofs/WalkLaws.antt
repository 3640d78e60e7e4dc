-- The turns of a walk over items.
use Prim.Native.Nat.{ℕ, zero, suc, ◌≤◌}
use mathlib.Core.Path.{◌≡◌, refl, sym, subst}
use mathlib.Core.Logic.{inl, inr}
use Rattle.sheet_seek.specs.Passes.{Walks}

module _ (step : ℕ → ℕ → Type 0) (end k k' p q : ℕ) where
  pub walks-same : k' ≡ k → Walks step end k' p q → Walks step end k p q
  walks-same e h = subst (λ (n : ℕ). Walks step end n p q) e h

  pub walks-next : k ≡ suc k' → (r : ℕ) → step p r → Walks step end k' r q → Walks step end k p q
  walks-next e r s h = subst (λ (n : ℕ). Walks step end n p q) (sym e) (inr (r, s, h))

module _ (step : ℕ → ℕ → Type 0) (end : ℕ) where
  pub walks-past : (k p : ℕ) → end ≤ p → Walks step end k p p
  walks-past zero p h = refl
  walks-past (suc k) p h = inl (h, refl)

  pub walks-done : (k p : ℕ) → k ≡ 0 → Walks step end k p p
  walks-done k p e = subst (λ (n : ℕ). Walks step end n p p) (sym e) refl
