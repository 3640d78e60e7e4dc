-- `rounded_down z d` is the greatest whole number that is not above z / d, and the comparisons of products that verdicts ask for
-- (document 01, "Verdicts") go through the factor: with z = limit × size and d = 65,536.
use Prim.Native.Nat.{ℕ, zero, suc, ◌-◌, ◌*◌, ◌/◌, ◌^◌, ◌≤◌, ◌<◌}
use mathlib.Core.Bool.{Bool, true, false, not, cond}
use mathlib.Core.Path.{◌≡◌, refl, sym, ap, ap₂, ◌∙◌}
use native.Mathlib.Nat.{le-div_iff_mul-le, div-lt_iff_lt-mul, mul-le-mul_right, zero-mul}
use native.Mathlib.Omega.{arith}
use lib.Dec.{leb, ltb}
use lib.IntN.{ℤ, pos, negsuc, neg_ℤ, ◌*ℤ◌, neg_ℤ-neg_ℤ, suc_ℤ}
use lib.Signed.{lt_z, le_z}
use borrow.Author.Tests.{lt-ltb, le-ltb, ltb-true, ltb-false, leb-true, leb-false}
use Rattle.units.proofs.Laws.{fixed_of-low, fixed_of-high}
use Rattle.units.specs.Fixed.{fixed_of, rounded_down, far_out, factor_of}

-- two tests that hold together are one
ltb-both : (a b c d : ℕ) → (a < b → c < d) → (c < d → a < b) → ltb a b ≡ ltb c d
ltb-both a b c d f g = go (ltb a b) refl
  where
    go : (t : Bool) → ltb a b ≡ t → ltb a b ≡ ltb c d
    go true e = e ∙ sym (lt-ltb c d (f (ltb-true a b e)))
    go false e = e ∙ sym (no (ltb c d) refl)
      where
        no : (t : Bool) → ltb c d ≡ t → ltb c d ≡ false
        no true h = let l : a < b = g (ltb-true c d h) in absurd (omega (arith, ltb-false a b e))
        no false h = h

leb-not : (a b : ℕ) → leb a b ≡ not (ltb b a)
leb-not a b = go (leb a b) refl
  where
    go : (t : Bool) → leb a b ≡ t → leb a b ≡ not (ltb b a)
    go true e = e ∙ sym (ap not (le-ltb b a (leb-true a b e)))
    go false e = e ∙ sym (ap not (lt-ltb b a (leb-false a b e)))

-- a negative product is some negative number
negative : (m d : ℕ) → 0 < d → negsuc m *ℤ pos d ≡ negsuc (suc m * d - 1)
negative m d h =
    let l : 1 * d ≤ suc m * d = mul-le-mul_right d (omega arith) in
    let e : suc m * d ≡ suc (suc m * d - 1) = omega arith in
    ap (λ (k : ℕ). neg_ℤ (pos k)) e

-- x below g × d is x / d, rounded down, below g
pub below-rounded : (x g : ℤ) (d : ℕ) → 0 < d → lt_z x (g *ℤ pos d) ≡ lt_z (rounded_down x d) g
below-rounded (pos n) (pos m) d h = ltb-both n (m * d) (n / d) m (λ l. (div-lt_iff_lt-mul h).1 l) (λ l. (div-lt_iff_lt-mul h).0 l)
below-rounded (pos n) (negsuc m) d h = ap (λ (z : ℤ). lt_z (pos n) z) (negative m d h)
below-rounded (negsuc n) (pos m) d h = refl
below-rounded (negsuc n) (negsuc m) d h =
    let l : 1 * d ≤ suc m * d = mul-le-mul_right d (omega arith) in
    ap (λ (z : ℤ). lt_z (negsuc n) z) (negative m d h) ∙ ltb-both (suc m * d - 1) n m (n / d) (there l) (back l)
  where
    there : 1 * d ≤ suc m * d → suc m * d - 1 < n → m < n / d
    there l k = let q : suc m * d ≤ n = omega arith in (le-div_iff_mul-le h).1 q

    back : 1 * d ≤ suc m * d → m < n / d → suc m * d - 1 < n
    back l k = let q : suc m * d ≤ n = (le-div_iff_mul-le h).0 k in omega arith

-- ---- signs

negℤ-times : (x : ℤ) (n : ℕ) → neg_ℤ x *ℤ pos n ≡ neg_ℤ (x *ℤ pos n)
negℤ-times (pos zero) n = simp zero-mul
negℤ-times (pos (suc m)) n = refl
negℤ-times (negsuc m) n = sym (neg_ℤ-neg_ℤ (pos (suc m * n)))

-- the order turns round with the signs
pub turned : (x y : ℤ) → lt_z x y ≡ lt_z (neg_ℤ y) (neg_ℤ x)
turned (pos zero) (pos zero) = refl
turned (pos zero) (pos (suc b)) = lt-ltb 0 (suc b) (omega arith)
turned (pos (suc a)) (pos zero) = le-ltb (suc a) 0 (omega arith)
turned (pos (suc a)) (pos (suc b)) = ltb-both (suc a) (suc b) a b (λ l. omega arith) (λ l. omega arith)
turned (pos zero) (negsuc b) = sym (le-ltb (suc b) 0 (omega arith))
turned (pos (suc a)) (negsuc b) = refl
turned (negsuc a) (pos zero) = sym (lt-ltb 0 (suc a) (omega arith))
turned (negsuc a) (pos (suc b)) = refl
turned (negsuc a) (negsuc b) = ltb-both b a (suc b) (suc a) (λ l. omega arith) (λ l. omega arith)

-- at least is not below
pub not-below : (x y : ℤ) → le_z x y ≡ not (lt_z y x)
not-below (pos a) (pos b) = leb-not a b
not-below (pos a) (negsuc b) = refl
not-below (negsuc a) (pos b) = refl
not-below (negsuc a) (negsuc b) = leb-not b a

-- ---- the verdicts' comparisons of products, through the factor of a limit that is a Fixed

module _ (g limit : ℤ) (size : ℕ) (fixed : far_out limit ≡ false) where
  factor-of : factor_of limit size ≡ rounded_down (limit *ℤ pos size) 65536
  unfolding factor_of
  factor-of = ap (λ (b : Bool). cond b (pos 0) (rounded_down (limit *ℤ pos size) 65536)) fixed

  -- g × 65,536 above limit × size
  pub above-factor : lt_z (limit *ℤ pos size) (g *ℤ pos 65536) ≡ lt_z (factor_of limit size) g
  above-factor = below-rounded (limit *ℤ pos size) g 65536 (omega arith) ∙ ap (λ (z : ℤ). lt_z z g) (sym factor-of)

module _ (g limit : ℤ) (size : ℕ) (fixed : far_out (neg_ℤ limit) ≡ false) where
  -- g × 65,536 below limit × size
  pub below-factor : lt_z (g *ℤ pos 65536) (limit *ℤ pos size) ≡ lt_z (factor_of (neg_ℤ limit) size) (neg_ℤ g)
  below-factor =
      turned (g *ℤ pos 65536) (limit *ℤ pos size)
      ∙ ap₂ (λ (a b : ℤ). lt_z a b) (sym (negℤ-times limit size)) (sym (negℤ-times g 65536))
      ∙ above-factor (neg_ℤ g) (neg_ℤ limit) size fixed

  -- g × 65,536 at least limit × size
  pub reaches-factor : le_z (limit *ℤ pos size) (g *ℤ pos 65536) ≡ not (lt_z (factor_of (neg_ℤ limit) size) (neg_ℤ g))
  reaches-factor = not-below (limit *ℤ pos size) (g *ℤ pos 65536) ∙ ap not below-factor

-- a number of 2^31 at most in size is near enough
pub near-pos : (n : ℕ) → n ≤ 2 ^ 31 → far_out (pos n) ≡ false
near-pos n h = le-ltb (2 ^ 31) n h

pub near-neg : (n : ℕ) → n ≤ 2 ^ 31 → far_out (neg_ℤ (pos n)) ≡ false
near-neg zero h = refl
near-neg (suc n) h =
    let e : ltb 2147483647 n ≡ false = le-ltb 2147483647 n (omega arith) in
    simp e

-- so are a Fixed and its negative
module _ (bits : ℕ) (h : bits < 2 ^ 32) where
  pub fixed-near : far_out (fixed_of bits) ≡ false
  fixed-near = go (ltb bits (2 ^ 31)) refl
    where
      go : (t : Bool) → ltb bits (2 ^ 31) ≡ t → far_out (fixed_of bits) ≡ false
      go true e = let l : bits ≤ 2 ^ 31 = omega (arith, ltb-true bits (2 ^ 31) e) in ap far_out (fixed_of-low bits (ltb-true _ _ e)) ∙ near-pos bits l
      go false e =
          let l : 2 ^ 32 - bits ≤ 2 ^ 31 = omega (arith, ltb-false bits (2 ^ 31) e) in
          ap far_out (fixed_of-high bits (ltb-false _ _ e)) ∙ near-neg (2 ^ 32 - bits) l

  pub negative_near : far_out (neg_ℤ (fixed_of bits)) ≡ false
  negative_near = go (ltb bits (2 ^ 31)) refl
    where
      go : (t : Bool) → ltb bits (2 ^ 31) ≡ t → far_out (neg_ℤ (fixed_of bits)) ≡ false
      go true e =
          let l : bits ≤ 2 ^ 31 = omega (arith, ltb-true bits (2 ^ 31) e) in
          ap (λ (z : ℤ). far_out (neg_ℤ z)) (fixed_of-low bits (ltb-true _ _ e)) ∙ near-neg bits l
      go false e =
          let l : 2 ^ 32 - bits ≤ 2 ^ 31 = omega (arith, ltb-false bits (2 ^ 31) e) in
          ap (λ (z : ℤ). far_out (neg_ℤ z)) (fixed_of-high bits (ltb-false _ _ e)) ∙ ap far_out (neg_ℤ-neg_ℤ (pos (2 ^ 32 - bits))) ∙ near-pos (2 ^ 32 - bits) l

-- ---- what rounding down means: rounded_down z d × d is at most z, and z is below (rounded_down z d + 1) × d

pub rounded-low : (z : ℤ) (d : ℕ) → 0 < d → lt_z z (rounded_down z d *ℤ pos d) ≡ false
rounded-low z d h = below-rounded z (rounded_down z d) d h ∙ itself (rounded_down z d)
  where
    itself : (x : ℤ) → lt_z x x ≡ false
    itself (pos n) = le-ltb n n (omega arith)
    itself (negsuc n) = le-ltb n n (omega arith)

pub rounded-high : (z : ℤ) (d : ℕ) → 0 < d → lt_z z (suc_ℤ (rounded_down z d) *ℤ pos d) ≡ true
rounded-high z d h = below-rounded z (suc_ℤ (rounded_down z d)) d h ∙ more (rounded_down z d)
  where
    more : (x : ℤ) → lt_z x (suc_ℤ x) ≡ true
    more (pos n) = lt-ltb n (suc n) (omega arith)
    more (negsuc zero) = refl
    more (negsuc (suc n)) = lt-ltb n (suc n) (omega arith)
