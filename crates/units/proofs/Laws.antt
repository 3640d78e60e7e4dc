-- Laws of distances and flags, for the proofs of the functions.
use Prim.Native.Nat.{ℕ, zero, suc, ◌+◌, ◌-◌, ◌*◌, ◌%◌, ◌^◌, ◌≤◌, ◌<◌}
use mathlib.Core.Bool.{Bool, true, false, cond}
use mathlib.Core.Path.{◌≡◌, refl, sym, ap, ap₂, ◌∙◌, subst}
use native.Mathlib.Nat.{mod-lt, mod-eq_of_lt, mul-le-mul_right, le_of_lt, lt_of_le_of_lt}
use native.Mathlib.Omega.{arith}
use lib.IntN.{ℤ, pos, negsuc, neg_ℤ, nat_abs, ◌-ℤ◌, ◌*ℤ◌}
use lib.Signed.{lt_z, shr_z, mag_shr}
use mir.Syntax.{w64}
use mir.Val.{SFits, to_z, of_z}
use mir.ValLaws.{to_z_pos, to_z-of_z}
use borrow.Author.Tests.{lt-ltb, le-ltb, ltb-false}
use Rattle.units.specs.Fixed.{fixed_of, fixed_size, far_out, factor_of}
use Rattle.units.specs.Flags.{entry_flags, width_flags}

-- ---- flags put together

-- a number below the modulus is its own remainder
small : (a : ℕ) → a % 128 * 128 % 65536 ≡ a % 128 * 128
small a =
    let h : a % 128 < 128 = mod-lt a (omega arith) in
    mod-eq_of_lt (omega arith)

-- ---- a Fixed number

pub fixed_of-low : (bits : ℕ) → bits < 2 ^ 31 → fixed_of bits ≡ pos bits
fixed_of-low bits h = simp (lt-ltb bits (2 ^ 31) h)

pub fixed_of-high : (bits : ℕ) → 2 ^ 31 ≤ bits → fixed_of bits ≡ neg_ℤ (pos (2 ^ 32 - bits))
fixed_of-high bits h = simp (le-ltb bits (2 ^ 31) h)

pub fixed-low : (bits : ℕ) → bits < 2 ^ 31 → to_z w64 bits ≡ fixed_of bits
fixed-low bits h = to_z_pos w64 bits (omega arith) ∙ sym (fixed_of-low bits h)

less-is : (bits : ℕ) → bits < 2 ^ 32 → pos bits -ℤ pos 4294967296 ≡ neg_ℤ (pos (2 ^ 32 - bits))
less-is bits h =
    let e : 2 ^ 32 - bits ≡ suc (2 ^ 32 - suc bits) = omega arith in
    simp (lt-ltb bits (2 ^ 32) h, e)

minus_is : (bits : ℕ) → bits < 2 ^ 32 → to_z w64 bits -ℤ pos 4294967296 ≡ neg_ℤ (pos (2 ^ 32 - bits))
minus_is bits h = ap (λ (z : ℤ). z -ℤ pos 4294967296) (to_z_pos w64 bits (omega arith)) ∙ less-is bits h

negative_fits : (k : ℕ) → k ≤ 2 ^ 63 → SFits w64 (neg_ℤ (pos k))
negative_fits zero h = record { sfits = omega arith }
negative_fits (suc k) h = record { sfits = omega arith }

pub fixed-fits : (bits : ℕ) → 2 ^ 31 ≤ bits → bits < 2 ^ 32 → SFits w64 (to_z w64 bits -ℤ pos 4294967296)
fixed-fits bits l h = subst (SFits w64) (sym (minus_is bits h)) (negative_fits (2 ^ 32 - bits) (omega arith))

pub fixed-high : (bits : ℕ) → 2 ^ 31 ≤ bits → bits < 2 ^ 32 → to_z w64 (of_z w64 (to_z w64 bits -ℤ pos 4294967296)) ≡ fixed_of bits
fixed-high bits l h = to_z-of_z w64 _ (fixed-fits bits l h) ∙ minus_is bits h ∙ sym (fixed_of-high bits l)

nat_abs-negℤ : (k : ℕ) → nat_abs (neg_ℤ (pos k)) ≡ k
nat_abs-negℤ zero = refl
nat_abs-negℤ (suc k) = refl

-- the size of a Fixed whose sign bit is clear, and of one whose sign bit is set
pub size_low : (bits : ℕ) → bits < 2 ^ 31 → fixed_size bits ≡ bits
unfolding fixed_size
size_low bits h = ap nat_abs (fixed_of-low bits h)

pub size-high : (bits : ℕ) → 2 ^ 31 ≤ bits → fixed_size bits ≡ 2 ^ 32 - bits
unfolding fixed_size
size-high bits h = ap nat_abs (fixed_of-high bits h) ∙ nat_abs-negℤ (2 ^ 32 - bits)

-- ---- the factor

-- a limit that is a Fixed or a Fixed's negative, by its two tests
near : (z : ℤ) → lt_z z (neg_ℤ (pos (2 ^ 31))) ≡ false → lt_z (pos (2 ^ 31)) z ≡ false → far_out z ≡ false
near z l h = simp (l, h)

below_out : (z : ℤ) (s : ℕ) → lt_z z (neg_ℤ (pos (2 ^ 31))) ≡ true → pos 0 ≡ factor_of z s
unfolding factor_of
below_out z s e = simp e

above-out : (z : ℤ) (s : ℕ) → lt_z z (neg_ℤ (pos (2 ^ 31))) ≡ false → lt_z (pos (2 ^ 31)) z ≡ true → pos 0 ≡ factor_of z s
unfolding factor_of
above-out z s l e = simp (l, e)

product-below : (a s : ℕ) → a ≤ 2 ^ 31 → s < 2 ^ 32 → a * s < 2 ^ 63
product-below a s h k =
    let e : a * s ≤ 2 ^ 31 * s = mul-le-mul_right s h in
    omega arith

-- the product of such a limit and a size fits 64 bits
product-fits : (z : ℤ) (s : ℕ) → lt_z z (neg_ℤ (pos (2 ^ 31))) ≡ false → lt_z (pos (2 ^ 31)) z ≡ false → s < 2 ^ 32 → SFits w64 (z *ℤ pos s)
product-fits (pos a) s l h k = record { sfits = product-below a s (ltb-false _ _ h) k }
product-fits (negsuc a) s l h k =
    let m : a < 2 ^ 31 = omega (arith, ltb-false 2147483647 a l) in
    negative_fits (suc a * s) (le_of_lt (product-below (suc a) s (omega arith) k))

module _ (z : ℤ) (s : ℕ) (fits : SFits w64 z) (size : s < 2 ^ 32) where
  same : to_z w64 (of_z w64 z) ≡ z
  same = to_z-of_z w64 z fits

  times : to_z w64 (of_z w64 z) *ℤ to_z w64 s ≡ z *ℤ pos s
  times = ap₂ (λ (a b : ℤ). a *ℤ b) same (to_z_pos w64 s (omega arith))

  pub factor-below : lt_z (to_z w64 (of_z w64 z)) (neg_ℤ (pos (2 ^ 31))) ≡ true → pos 0 ≡ factor_of z s
  factor-below e = below_out z s (ap (λ (a : ℤ). lt_z a (neg_ℤ (pos (2 ^ 31)))) (sym same) ∙ e)

  module _ (low : lt_z (to_z w64 (of_z w64 z)) (neg_ℤ (pos (2 ^ 31))) ≡ false) where
    low' : lt_z z (neg_ℤ (pos (2 ^ 31))) ≡ false
    low' = ap (λ (a : ℤ). lt_z a (neg_ℤ (pos (2 ^ 31)))) (sym same) ∙ low

    pub factor-above : lt_z (pos (2 ^ 31)) (to_z w64 (of_z w64 z)) ≡ true → pos 0 ≡ factor_of z s
    factor-above e = above-out z s low' (ap (λ (a : ℤ). lt_z (pos (2 ^ 31)) a) (sym same) ∙ e)

    module _ (high : lt_z (pos (2 ^ 31)) (to_z w64 (of_z w64 z)) ≡ false) where
      high' : lt_z (pos (2 ^ 31)) z ≡ false
      high' = ap (λ (a : ℤ). lt_z (pos (2 ^ 31)) a) (sym same) ∙ high

      pub factor-fits : SFits w64 (to_z w64 (of_z w64 z) *ℤ to_z w64 s)
      factor-fits = subst (SFits w64) (sym times) (product-fits z s low' high' size)

      whole : to_z w64 (of_z w64 (to_z w64 (of_z w64 z) *ℤ to_z w64 s)) ≡ z *ℤ pos s
      whole = to_z-of_z w64 _ factor-fits ∙ times

      shifted_fits : SFits w64 (shr_z (z *ℤ pos s) 65536)
      shifted_fits = record { sfits = lt_of_le_of_lt (mag_shr (z *ℤ pos s) 65536) (product-fits z s low' high' size).sfits }

      pub factor-is : to_z w64 (of_z w64 (shr_z (to_z w64 (of_z w64 (to_z w64 (of_z w64 z) *ℤ to_z w64 s))) 65536)) ≡ factor_of z s
      unfolding factor_of
      factor-is =
          ap (λ (a : ℤ). to_z w64 (of_z w64 (shr_z a 65536))) whole
          ∙ to_z-of_z w64 _ shifted_fits
          ∙ sym (ap (λ (b : Bool). cond b (pos 0) (shr_z (z *ℤ pos s) 65536)) (near z low' high'))
