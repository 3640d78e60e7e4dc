-- The comparisons of products in 64-bit numbers, through the factor.
use Prim.Native.Nat.{ℕ, zero, suc, ◌+◌, ◌-◌, ◌*◌, ◌^◌, ◌≤◌, ◌<◌}
use mathlib.Core.Bool.{Bool, true, false, cond, not, ◌||◌}
use mathlib.Core.Path.{◌≡◌, refl, sym, ap, ap₂, ◌∙◌, subst}
use native.Mathlib.Nat.{mul-le-mul, div-le_self, add_assoc, add-zero}
use native.Mathlib.Omega.{arith}
use mathlib.Core.List.{List}
use mathlib.Core.Logic.{◌⊎◌, ⊎_elim}
use lib.Dec.{ltb, eqb}
use lib.IntN.{ℤ, pos, negsuc, neg_ℤ, nat_abs, neg_ℤ-neg_ℤ, ◌-ℤ◌, ◌*ℤ◌, +ℤ_idl}
use lib.ListN.{drop}
use lib.Seq.{get_or-drop}
use lib.Signed.{lt_z, le_z, shr_z}
use mir.Syntax.{w64}
use mir.Val.{SFits, to_z, of_z}
use mir.ValLaws.{to_z-of_z}
use borrow.Author.Tests.{ltb-true, ltb-false, ne_eqb}
use Rattle.fields.specs.Field.{u16_at, u32_at}
use Rattle.units.specs.Fixed.{fixed_of, far_out, factor_of}
use Rattle.units.proofs.Rounding.{turned, above-factor, below-factor, not-below, fixed-near, negative_near}
use Rattle.verdict.specs.Verdict.{below, above, reaches, lower, upper, threshold, grows, breaks, adds, substitutes, stretches, type_fires}
use Rattle.verdict.specs.declared.Fires.TheVariants.{No, Plain, Substitutes}

-- ---- sizes

nat_abs-negℤ : (z : ℤ) → nat_abs (neg_ℤ z) ≡ nat_abs z
nat_abs-negℤ (pos zero) = refl
nat_abs-negℤ (pos (suc n)) = refl
nat_abs-negℤ (negsuc n) = refl

-- a Fixed's size
fixed-size : (bits : ℕ) → bits < 2 ^ 32 → nat_abs (fixed_of bits) ≤ 2 ^ 31
fixed-size bits h = go (ltb bits (2 ^ 31)) refl
  where
    go : (t : Bool) → ltb bits (2 ^ 31) ≡ t → nat_abs (cond t (pos bits) (neg_ℤ (pos (2 ^ 32 - bits)))) ≤ 2 ^ 31
    go true e = omega (arith, ltb-true bits (2 ^ 31) e)
    go false e = omega (arith, ltb-false bits (2 ^ 31) e, nat_abs-negℤ (pos (2 ^ 32 - bits)))

product-size : (z : ℤ) (s : ℕ) → nat_abs (z *ℤ pos s) ≡ nat_abs z * s
product-size (pos a) s = refl
product-size (negsuc a) s = nat_abs-negℤ (pos (suc a * s))

rounded-size : (z : ℤ) → nat_abs (shr_z z 65536) ≤ nat_abs z
rounded-size (pos a) = div-le_self a 65536
rounded-size (negsuc a) = let h = div-le_self a 65536 in omega arith

-- the factor of a limit no larger than 2^31 fits 64 bits, and so does its negative
factor-size : (z : ℤ) (s : ℕ) → nat_abs z ≤ 2 ^ 31 → s < 2 ^ 32 → nat_abs (factor_of z s) < 2 ^ 63
unfolding factor_of
factor-size z s h k = go (far_out z)
  where
    product : nat_abs z * s ≤ 2147483648 * 4294967295
    product = mul-le-mul h (let l : s ≤ 4294967295 = omega arith in l)

    go : (t : Bool) → nat_abs (cond t (pos 0) (shr_z (z *ℤ pos s) 65536)) < 2 ^ 63
    go true = omega arith
    go false = omega (arith, rounded-size (z *ℤ pos s), product-size z s, product)

-- ---- a negative in 64 bits

negative_fits : (z : ℤ) → nat_abs z < 2 ^ 63 → SFits w64 (neg_ℤ z)
negative_fits (pos zero) h = record { sfits = omega arith }
negative_fits (pos (suc n)) h = record { sfits = omega arith }
negative_fits (negsuc n) h = record { sfits = omega arith }

minus_is : (z : ℤ) → SFits w64 z → pos 0 -ℤ to_z w64 (of_z w64 z) ≡ neg_ℤ z
minus_is z f = ap (λ (x : ℤ). pos 0 -ℤ x) (to_z-of_z w64 z f) ∙ +ℤ_idl (neg_ℤ z)

minus-fits : (z : ℤ) → SFits w64 z → nat_abs z < 2 ^ 63 → SFits w64 (pos 0 -ℤ to_z w64 (of_z w64 z))
minus-fits z f h = subst (SFits w64) (sym (minus_is z f)) (negative_fits z h)

minus : (z : ℤ) → SFits w64 z → nat_abs z < 2 ^ 63 → to_z w64 (of_z w64 (pos 0 -ℤ to_z w64 (of_z w64 z))) ≡ neg_ℤ z
minus z f h = to_z-of_z w64 _ (minus-fits z f h) ∙ minus_is z f

-- ---- the two comparisons

-- `limit` is what the bits say, and `factor` its factor
pub is-above : (g limit factor : ℤ) (bits size : ℕ) → SFits w64 g → SFits w64 factor → bits < 2 ^ 32 → limit ≡ fixed_of bits → factor ≡ factor_of limit size
    → lt_z (to_z w64 (of_z w64 factor)) (to_z w64 (of_z w64 g)) ≡ above g (fixed_of bits) size
is-above g limit factor bits size p q h e f =
    ap₂ (λ (x y : ℤ). lt_z x y) (to_z-of_z w64 factor q) (to_z-of_z w64 g p)
    ∙ ap (λ (x : ℤ). lt_z x g) (f ∙ ap (λ (x : ℤ). factor_of x size) e)
    ∙ sym (above-factor g (fixed_of bits) size (fixed-near bits h))

module _ (limit : ℤ) (bits : ℕ) (p : SFits w64 limit) (h : bits < 2 ^ 32) (e : limit ≡ fixed_of bits) where
  small : nat_abs limit ≤ 2 ^ 31
  small = subst (λ (z : ℤ). nat_abs z ≤ 2 ^ 31) (sym e) (fixed-size bits h)

  pub limit-fits : SFits w64 (pos 0 -ℤ to_z w64 (of_z w64 limit))
  limit-fits = minus-fits limit p (omega (arith, small))

  module _ (factor : ℤ) (size : ℕ) (q : SFits w64 factor) (k : size < 2 ^ 32)
      (f : factor ≡ factor_of (to_z w64 (of_z w64 (pos 0 -ℤ to_z w64 (of_z w64 limit)))) size) where
    factor-is : factor ≡ factor_of (neg_ℤ (fixed_of bits)) size
    factor-is = f ∙ ap (λ (z : ℤ). factor_of z size) (minus limit p (omega (arith, small)) ∙ ap neg_ℤ e)

    factor-small : nat_abs factor < 2 ^ 63
    factor-small =
        subst (λ (z : ℤ). nat_abs z < 2 ^ 63) (sym factor-is)
        (factor-size (neg_ℤ (fixed_of bits)) size (subst (λ (n : ℕ). n ≤ 2 ^ 31) (sym (nat_abs-negℤ (fixed_of bits))) (fixed-size bits h)) k)

    pub least_fits : SFits w64 (pos 0 -ℤ to_z w64 (of_z w64 factor))
    least_fits = minus-fits factor q factor-small

    pub is_below : (g : ℤ) → SFits w64 g
        → lt_z (to_z w64 (of_z w64 g)) (to_z w64 (of_z w64 (pos 0 -ℤ to_z w64 (of_z w64 factor)))) ≡ below g (fixed_of bits) size
    is_below g r =
        ap₂ (λ (x y : ℤ). lt_z x y) (to_z-of_z w64 g r) (minus factor q factor-small)
        ∙ turned g (neg_ℤ factor)
        ∙ ap (λ (x : ℤ). lt_z x (neg_ℤ g)) (neg_ℤ-neg_ℤ factor)
        ∙ ap (λ (x : ℤ). lt_z x (neg_ℤ g)) factor-is
        ∙ sym (below-factor g (fixed_of bits) size (negative_near bits h))

-- ---- the types

not-not : (b : Bool) → not (not b) ≡ b
not-not true = refl
not-not false = refl

module _ (g : ℤ) (p : SFits w64 g) where
  there : (b : Bool) → lt_z (pos 0) (to_z w64 (of_z w64 g)) ≡ b → grows g ≡ b
  there b e = ap (λ (z : ℤ). lt_z (pos 0) z) (sym (to_z-of_z w64 g p)) ∙ e

  pub adds-is : (b : Bool) → lt_z (pos 0) (to_z w64 (of_z w64 g)) ≡ b → cond b Plain No ≡ adds g
  unfolding adds
  adds-is b e = ap (λ (t : Bool). cond t Plain No) (sym (there b e))

  zero_is : of_z w64 g ≡ 0 → g ≡ pos 0
  zero_is e = sym (to_z-of_z w64 g p) ∙ ap (to_z w64) e

  pub stays : of_z w64 g ≡ 0 → No ≡ stretches g
  unfolding stretches
  stays e = sym (ap (λ (z : ℤ). cond (eqb (nat_abs z) 0) No Plain) (zero_is e))

  nonzero : (z : ℤ) → (z ≡ pos 0 → ⊥) → eqb (nat_abs z) 0 ≡ false
  nonzero (pos zero) h = absurd (h refl)
  nonzero (pos (suc n)) h = ne_eqb (suc n) 0 (λ e. omega arith)
  nonzero (negsuc n) h = ne_eqb (suc n) 0 (λ e. omega arith)

  pub moves : (of_z w64 g ≡ 0 → ⊥) → Plain ≡ stretches g
  unfolding stretches
  moves h = sym (ap (λ (t : Bool). cond t No Plain) (nonzero g (λ e. h (ap (of_z w64) e))))

  -- type 2: the glyph did not grow, or it did
  grown : (b : Bool) → le_z (to_z w64 (of_z w64 g)) (pos 0) ≡ b → grows g ≡ not b
  grown b e =
      sym (not-not (grows g)) ∙ ap not (sym (not-below g (pos 0)) ∙ ap (λ (z : ℤ). le_z z (pos 0)) (sym (to_z-of_z w64 g p)) ∙ e)

  pub no-growth : (content : List ℕ) (s : ℕ) → le_z (to_z w64 (of_z w64 g)) (pos 0) ≡ true → No ≡ substitutes content g s
  unfolding substitutes
  no-growth content s e = sym (ap (λ (t : Bool). cond t (cond (reaches g (threshold content) s) Substitutes Plain) No) (grown true e))

  pub substitutes-is : (content : List ℕ) (s : ℕ) (b : Bool) → le_z (to_z w64 (of_z w64 g)) (pos 0) ≡ false → below g (threshold content) s ≡ b
      → cond b Plain Substitutes ≡ substitutes content g s
  unfolding substitutes
  substitutes-is content s b e f =
      turn b
      ∙ sym (ap₂ (λ (x y : Bool). cond x (cond y Substitutes Plain) No) (grown false e)
      (not-below (threshold content *ℤ pos s) (g *ℤ pos 65536) ∙ ap not f))
    where
      turn : (b : Bool) → cond b Plain Substitutes ≡ cond (not b) Substitutes Plain
      turn true = refl
      turn false = refl

module _ (content : List ℕ) (g : ℤ) (s : ℕ) where
  -- type 0 by its two tests
  pub breaks-is : (a b : Bool) → below g (lower content) s ≡ a → above g (upper content) s ≡ b → cond (a || b) Plain No ≡ breaks content g s
  unfolding breaks
  breaks-is a b e f = sym (ap₂ (λ (x y : Bool). cond (x || y) Plain No) e f)

-- data that begins at a position of the table, read where it stands
pub u32-dropped : (t : List ℕ) (n k : ℕ) → u32_at (drop n t) k ≡ u32_at t (n + k)
unfolding u32_at u16_at
u32-dropped t n k = simp (get_or-drop, add_assoc)

pub first-limit : (t : List ℕ) (n : ℕ) → u32_at t n ≡ u32_at (drop n t) 0
first-limit t n = sym (u32-dropped t n 0 ∙ ap (u32_at t) (add-zero n))

-- a test that was made with bits that were read
module _ (test : ℤ → ℤ → ℕ → Bool) (g : ℤ) (s : ℕ) where
  pub made : {r b : Bool} {bits n : ℕ} → r ≡ test g (fixed_of bits) s → bits ≡ n → r ≡ b → test g (fixed_of n) s ≡ b
  made {r} {b} {bits} {n} e f h = ap (λ (k : ℕ). test g (fixed_of k) s) (sym f) ∙ sym e ∙ h

-- ---- an action by its type

module _ (content : List ℕ) (g : ℤ) (s : ℕ) where
  pub type-breaks : (k : ℕ) → k ≡ 0 → breaks content g s ≡ type_fires k content g s
  unfolding type_fires
  type-breaks k e = sym (ap (λ (n : ℕ). type_fires n content g s) e)

  pub type-adds : (k : ℕ) → (k ≡ 1) ⊎ (k ≡ 5) → adds g ≡ type_fires k content g s
  unfolding type_fires
  type-adds k e = ⊎_elim (λ f. sym (ap (λ (n : ℕ). type_fires n content g s) f)) (λ f. sym (ap (λ (n : ℕ). type_fires n content g s) f)) e

  pub type-substitutes : (k : ℕ) → k ≡ 2 → substitutes content g s ≡ type_fires k content g s
  unfolding type_fires
  type-substitutes k e = sym (ap (λ (n : ℕ). type_fires n content g s) e)

  pub type-stretches : (k : ℕ) → 3 ≤ k → k ≤ 4 → stretches g ≡ type_fires k content g s
  unfolding type_fires
  type-stretches zero h l = absurd (omega arith)
  type-stretches (suc zero) h l = absurd (omega arith)
  type-stretches (suc (suc zero)) h l = absurd (omega arith)
  type-stretches (suc (suc (suc zero))) h l = refl
  type-stretches (suc (suc (suc (suc zero)))) h l = refl
  type-stretches (suc (suc (suc (suc (suc k))))) h l = absurd (omega arith)

  pub type-none : (k : ℕ) → 6 ≤ k → No ≡ type_fires k content g s
  unfolding type_fires
  type-none k h =
      simp (
        ne_eqb k 0 (λ e. omega arith),
        ne_eqb k 1 (λ e. omega arith),
        ne_eqb k 5 (λ e. omega arith),
        ne_eqb k 2 (λ e. omega arith),
        ne_eqb k 3 (λ e. omega arith),
        ne_eqb k 4 (λ e. omega arith),
      )
