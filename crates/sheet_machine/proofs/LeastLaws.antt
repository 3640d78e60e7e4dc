-- The least closed number of rows, cell by cell.
use Prim.Native.Nat.{ℕ, ◌+◌, ◌*◌, ◌≤◌, ◌<◌, max}
use mathlib.Core.Path.{◌≡◌, ap, subst}
use native.Mathlib.Omega.{arith}
use native.Mathlib.Decide.{dec_lt}
use native.Mathlib.Nat.{mul-le-mul, mul-le-mul_right, mul-lt-mul_of_pos_right}
use Rattle.sheet_machine.specs.Machine.{ClosedBy, LeastBy}

-- after the cells below k: they lead below t, and no closed number is less than t
pub record Reached (f : ℕ → ℕ) (classes rows t k : ℕ) : Type 0 where
  pub two : 2 ≤ t
  pub most : t ≤ rows
  pub inside : k ≤ t * classes
  pub below : (j : ℕ) → j < k → f j < t
  pub tight : (u : ℕ) → 2 ≤ u → ClosedBy f classes u → t ≤ u

module _ (f : ℕ → ℕ) (classes rows : ℕ) where
  pub reach-start : 2 ≤ rows → Reached f classes rows 2 0
  reach-start h = record { two = omega arith; most = h; inside = omega arith; below = λ j l. absurd (omega arith); tight = λ u l c. l }

  module _ (t k : ℕ) (r : Reached f classes rows t k) where
    below_more : (v : ℕ) → t ≤ v → f k < v → (j : ℕ) → Dec (j < k) → j < k + 1 → f j < v
    below_more v h g j (yes l) m = omega (arith, r.below j l)
    below_more v h g j (no l) m = let e : k ≡ j = omega arith in subst (λ (x : ℕ). f x < v) e g

    reach-stay : k < t * classes → f k < t → Reached f classes rows t (k + 1)
    reach-stay h g =
        record { two = r.two; most = r.most; inside = omega arith; below = λ j l. below_more t (omega arith) g j (dec_lt j k) l; tight = r.tight }

    reach-more : (v : ℕ) → v ≡ f k + 1 → k < t * classes → t ≤ f k → f k < rows → Reached f classes rows v (k + 1)
    reach-more v e h g l =
        let m : t * classes ≤ v * classes = mul-le-mul_right classes (omega arith) in
        record {
          two = omega (arith, r.two);
          most = omega arith;
          inside = omega (arith, m);
          below = λ j i. below_more v (omega arith) (omega arith) j (dec_lt j k) i;
          tight = λ u i c. up u (r.tight u i c) (c k);
        }
      where
        up : (u : ℕ) → t ≤ u → (k < u * classes → f k < u) → v ≤ u
        up u i c = let m : t * classes ≤ u * classes = mul-le-mul_right classes i in omega (arith, c (omega (arith, m)))

    pub reach-on : (v : ℕ) → v ≡ max t (f k + 1) → k < t * classes → f k < rows → Reached f classes rows v (k + 1)
    reach-on v e h l = go (dec_lt (f k) t)
      where
        go : Dec (f k < t) → Reached f classes rows v (k + 1)
        go (yes p) = let q : t ≡ v = omega arith in subst (λ (x : ℕ). Reached f classes rows x (k + 1)) q (reach-stay h p)
        go (no p) = reach-more v (omega (arith, p)) h (omega (arith, p)) l

    pub reach-closed : k ≡ t * classes → t < rows → LeastBy f classes rows → ⊥
    reach-closed e l least = least t r.two l (λ j i. r.below j (omega (arith, e)))

    pub reach-end : 0 < classes → rows * classes ≤ k → LeastBy f classes rows
    reach-end w e u h l c =
        let i : t ≤ u = r.tight u h c in
        let m : t * classes < rows * classes = mul-lt-mul_of_pos_right {m = t} {n = rows} (omega arith) w in
        omega (arith, m, r.inside)

pub less-rows : (t rows classes : ℕ) → t ≤ rows → t * classes < rows * classes → t < rows
less-rows t rows classes h l = go (dec_lt t rows)
  where
    go : Dec (t < rows) → t < rows
    go (yes p) = p
    go (no p) = let e : t ≡ rows = omega arith in absurd (omega (arith, ap (λ (x : ℕ). x * classes) e))

pub few-cells : (t classes : ℕ) → t ≤ 256 → classes ≤ 255 → t * classes ≤ 65280
few-cells t classes h w = mul-le-mul {n₁ = t} {m₁ = classes} {n₂ = 256} {m₂ = 255} h w
