-- A map of the numbers below s into themselves, iterated: s + 1 values repeat one, and from a repeat on nothing new comes.
-- So what holds of the first s values holds of all. Assumes nothing.
use Prim.Native.Nat.{ℕ, zero, suc, ◌+◌, ◌-◌, ◌≤◌, ◌<◌}
use mathlib.Core.Path.{◌≡◌, ap, sym, ◌∙◌, subst}
use mathlib.Core.Logic.{◌⊎◌, inl, inr}
use native.Mathlib.Omega.{arith}
use native.Mathlib.Decide.{ℕ_discrete, dec_lt}
use native.Mathlib.Nat.{add-suc, add-zero}
use lib.Dec.{eqb}
use borrow.Author.Tests.{eq-eqb, ne_eqb}
use mathlib.Core.Bool.{cond}

-- the first s values of f that hold v, or none
find : (f : ℕ → ℕ) (v n : ℕ) → ((i : ℕ) × (i < n) × (f i ≡ v)) ⊎ ((i : ℕ) → i < n → f i ≡ v → ⊥)
find f v zero = inr (λ i h e. omega arith)
find f v (suc n) = go (find f v n) (ℕ_discrete (f n) v)
  where
    at : ((i : ℕ) → i < n → f i ≡ v → ⊥) → (f n ≡ v → ⊥) → (i : ℕ) → i < suc n → Dec (i ≡ n) → f i ≡ v → ⊥
    at none q i h (yes e) w = q (rw (← e) w)
    at none q i h (no e) w = none i (omega arith) w

    go : ((i : ℕ) × (i < n) × (f i ≡ v)) ⊎ ((i : ℕ) → i < n → f i ≡ v → ⊥) → Dec (f n ≡ v)
        → ((i : ℕ) × (i < suc n) × (f i ≡ v)) ⊎ ((i : ℕ) → i < suc n → f i ≡ v → ⊥)
    go (inl p) d = inl (p.0, omega arith, p.2)
    go (inr none) (yes p) = inl (n, omega arith, p)
    go (inr none) (no q) = inr (λ i h. at none q i h (ℕ_discrete i n))

abbrev moved : ℕ → ℕ → ℕ → ℕ
moved s v x = cond (eqb x s) v x

moved-hit : (s v x : ℕ) → x ≡ s → moved s v x ≡ v
moved-hit s v x e = simp (eq-eqb x s e)

moved-miss : (s v x : ℕ) → (x ≡ s → ⊥) → moved s v x ≡ x
moved-miss s v x e = simp (ne_eqb x s e)

-- s + 1 numbers below s: two are the same
abbrev pub Twice : (ℕ → ℕ) → ℕ → Type 0
Twice f s = (i : ℕ) × (j : ℕ) × (i < j) × (j ≤ s) × (f i ≡ f j)

pub twice : (s : ℕ) (f : ℕ → ℕ) → ((k : ℕ) → k ≤ s → f k < s) → Twice f s
twice zero f low = absurd (omega (arith, low 0 (omega arith)))
twice (suc s) f low = done (twice s) (find f (f (suc s)) (suc s))
  where
    g : ℕ → ℕ
    g k = moved s (f (suc s)) (f k)

    below : ((i : ℕ) → i < suc s → f i ≡ f (suc s) → ⊥) → (k : ℕ) → k ≤ s → Dec (f k ≡ s) → g k < s
    below none k h (yes e) = rw (moved-hit s (f (suc s)) (f k) e) (omega (arith, none k (omega arith), low k (omega arith), low (suc s) (omega arith)))
    below none k h (no e) = rw (moved-miss s (f (suc s)) (f k) e) (omega (arith, low k (omega arith)))

    back : ((i : ℕ) → i < suc s → f i ≡ f (suc s) → ⊥) → (i j : ℕ) → i ≤ s → j ≤ s → g i ≡ g j → Dec (f i ≡ s) → Dec (f j ≡ s) → f i ≡ f j
    back none i j hi hj e (yes p) (yes q) = p ∙ sym q
    back none i j hi hj e (yes p) (no q) = absurd (none j (omega arith) (sym (moved-miss s (f (suc s)) (f j) q) ∙ sym e ∙ moved-hit s (f (suc s)) (f i) p))
    back none i j hi hj e (no p) (yes q) = absurd (none i (omega arith) (sym (moved-miss s (f (suc s)) (f i) p) ∙ e ∙ moved-hit s (f (suc s)) (f j) q))
    back none i j hi hj e (no p) (no q) = sym (moved-miss s (f (suc s)) (f i) p) ∙ e ∙ moved-miss s (f (suc s)) (f j) q

    done : ((h : ℕ → ℕ) → ((k : ℕ) → k ≤ s → h k < s) → Twice h s) → ((i : ℕ) × (i < suc s) × (f i ≡ f (suc s))) ⊎ ((i : ℕ) → i < suc s → f i ≡ f (suc s) → ⊥) → Twice f (suc s)
    done rec (inl p) = (p.0, suc s, p.1, omega arith, p.2)
    done rec (inr none) =
        let t = rec g (λ k h. below none k h (ℕ_discrete (f k) s)) in
        (t.0, t.1, t.2, omega arith, back none t.0 t.1 (omega arith) (omega arith) t.4 (ℕ_discrete (f t.0) s) (ℕ_discrete (f t.1) s))

unfoldable pub iter : (ℕ → ℕ) → ℕ → ℕ → ℕ
iter h zero r = r
iter h (suc k) r = h (iter h k r)

-- from a repeat on the values repeat
again : (h : ℕ → ℕ) (r i j t : ℕ) → iter h i r ≡ iter h j r → iter h (i + t) r ≡ iter h (j + t) r
unfolding iter
again h r i j zero e = simp (add-zero) e
again h r i j (suc t) e = simp (add-suc) (ap h (again h r i j t e))

-- what holds of the first s values holds of all
module _ (h : ℕ → ℕ) (P : ℕ → Type 0) (s r : ℕ) (low : (k : ℕ) → k ≤ s → iter h k r < s) (first : (k : ℕ) → k < s → P (iter h k r)) where
  below-fuel : Twice (λ k. iter h k r) s → (n k : ℕ) → k < n → P (iter h k r)
  below-fuel t zero k l = absurd (omega arith)
  below-fuel t (suc n) k l = go (below-fuel t n) (dec_lt k t.1)
    where
      go : ((k' : ℕ) → k' < n → P (iter h k' r)) → Dec (k < t.1) → P (iter h k r)
      go rec (yes p) = first k (omega arith)
      go rec (no p) =
          let d : ℕ = k - t.1 in
          let e : t.1 + d ≡ k = omega arith in
          let back : iter h (t.0 + d) r ≡ iter h k r = again h r t.0 t.1 d t.4 ∙ ap (λ (x : ℕ). iter h x r) e in
          subst P back (rec (t.0 + d) (omega arith))

  pub forever : (k : ℕ) → P (iter h k r)
  forever k = below-fuel (twice s (λ k. iter h k r) low) (suc k) k (omega arith)
