-- Flags taken apart and put together again are what they were, the ignored bits apart.
use Prim.Native.Nat.{ℕ, zero, suc, ◌+◌, ◌*◌, ◌/◌, ◌%◌, ◌<◌}
use mathlib.Core.Bool.{Bool, true, false, cond}
use mathlib.Core.Path.{◌≡◌, refl, sym, ap₂, ◌∙◌}
use native.Mathlib.Nat.{mod-lt, mod-eq_of_lt, div-add-mod', div-div-eq-div-mul}
use native.Mathlib.Omega.{arith}
use lib.Dec.{eqb}
use borrow.Author.Tests.{eq-eqb, ne_eqb}
use Rattle.units.specs.Flags.{sets_mark, stays, mark_class, current_class, entry_flags, is_unlimited, priority_of, width_flags, kept_flags}

parts : (f : ℕ) → f ≡ f / 128 * 128 + f % 128
parts f = sym (div-add-mod' f 128)

module _ (u s b a f : ℕ) (hu : u < 2) (hs : s < 2) (hb : b < 128) (ha : a < 128) (e : f ≡ ((u * 2 + s) * 128 + b) * 128 + a) where
  top : f / 0x8000 % 2 ≡ u
  top = let q : f / 0x8000 ≡ u = omega arith in omega arith

  next : f / 0x4000 % 2 ≡ s
  next = let q : f / 0x4000 ≡ u * 2 + s = omega arith in omega arith

  marked : f / 0x80 % 0x80 ≡ b
  marked = let q : f / 0x80 ≡ (u * 2 + s) * 128 + b = omega arith in omega arith

  current : f % 0x80 ≡ a
  current = omega arith

bit : Bool → ℕ
bit b = cond b 1 0

bit-small : (b : Bool) → bit b < 2
unfolding bit
bit-small true = omega arith
bit-small false = omega arith

bit_is : (b : Bool) (n : ℕ) → n ≡ bit b → eqb n 1 ≡ b
unfolding bit
bit_is true n e = eq-eqb n 1 e
bit_is false n e = ne_eqb n 1 (λ h. omega arith)

scaled : (b : Bool) (k : ℕ) → cond b k 0 ≡ bit b * k
unfolding bit
scaled true k = omega arith
scaled false k = omega arith

of-bit : (b : ℕ) → b < 2 → bit (eqb b 1) ≡ b
unfolding bit
of-bit zero h = refl
of-bit (suc zero) h = refl
of-bit (suc (suc b)) h = absurd (omega arith)

remainder : (n k : ℕ) → 0 < k → n % k < k
remainder n k h = mod-lt n h

-- ---- an entry's flags

module _ (m s : Bool) (mark now : ℕ) where
  digits : entry_flags m s mark now ≡ ((bit m * 2 + bit s) * 128 + mark % 128) * 128 + now % 128
  unfolding entry_flags
  digits = omega (arith, scaled m 0x8000, scaled s 0x4000)

  pub sets-mark-of : sets_mark (entry_flags m s mark now) ≡ m
  sets-mark-of =
      bit_is m _
      (top (bit m) (bit s) (mark % 128) (now % 128) _ (bit-small m) (bit-small s) (remainder mark 128 (omega arith)) (remainder now 128 (omega arith)) digits)

  pub stays_of : stays (entry_flags m s mark now) ≡ s
  stays_of =
      bit_is s _
      (next (bit m) (bit s) (mark % 128) (now % 128) _ (bit-small m) (bit-small s) (remainder mark 128 (omega arith)) (remainder now 128 (omega arith)) digits)

  pub mark-class-of : mark_class (entry_flags m s mark now) ≡ mark % 128
  mark-class-of =
      marked (bit m) (bit s) (mark % 128) (now % 128) _ (bit-small m) (bit-small s) (remainder mark 128 (omega arith)) (remainder now 128 (omega arith)) digits

  pub current-class-of : current_class (entry_flags m s mark now) ≡ now % 128
  current-class-of =
      current (bit m) (bit s) (mark % 128) (now % 128) _ (bit-small m) (bit-small s) (remainder mark 128 (omega arith)) (remainder now 128 (omega arith)) digits

-- taken apart and put together again
pub entry-together : (f : ℕ) → f < 65536 → entry_flags (sets_mark f) (stays f) (mark_class f) (current_class f) ≡ f
entry-together f h =
    let q : f / 0x4000 ≡ f / 0x8000 * 2 + f / 0x4000 % 2 = omega (arith, div-add-mod' (f / 0x4000) 2, div-div-eq-div-mul f 0x4000 2) in
    let r : f / 0x80 ≡ f / 0x4000 * 128 + f / 0x80 % 128 = omega (arith, div-add-mod' (f / 0x80) 128, div-div-eq-div-mul f 0x80 128) in
    let u : f / 0x8000 < 2 = omega arith in
    let v : f / 0x8000 % 2 ≡ f / 0x8000 = mod-eq_of_lt u in
    let a : bit (sets_mark f) ≡ f / 0x8000 = of-bit (f / 0x8000 % 2) (remainder (f / 0x8000) 2 (omega arith)) ∙ v in
    let b : bit (stays f) ≡ f / 0x4000 % 2 = of-bit (f / 0x4000 % 2) (remainder (f / 0x4000) 2 (omega arith)) in
    let c : f / 0x80 % 0x80 % 128 ≡ f / 0x80 % 0x80 = mod-eq_of_lt (remainder (f / 0x80) 128 (omega arith)) in
    let d : f % 0x80 % 128 ≡ f % 0x80 = mod-eq_of_lt (remainder f 128 (omega arith)) in
    digits (sets_mark f) (stays f) (mark_class f) (current_class f) ∙ joined (f / 0x8000) (f / 0x4000 % 2) (f / 0x80 % 128) (f % 128) a b c d q r (parts f)
  where
    joined : (x y z w : ℕ) {i j k l : ℕ} → i ≡ x → j ≡ y → k ≡ z → l ≡ w → f / 0x4000 ≡ x * 2 + y → f / 0x80 ≡ f / 0x4000 * 128 + z
        → f ≡ f / 0x80 * 128 + w → ((i * 2 + j) * 128 + k) * 128 + l ≡ f
    joined x y z w e₁ e₂ e₃ e₄ q r g = omega arith

-- ---- a width record's flags

pub kept-is : (f : ℕ) → kept_flags f ≡ f / 0x1000 % 2 * 0x1000 + f % 0x10
unfolding width_flags
kept-is f =
    let a : bit (is_unlimited f) ≡ f / 0x1000 % 2 = of-bit (f / 0x1000 % 2) (remainder (f / 0x1000) 2 (omega arith)) in
    let b : f % 0x10 % 0x10 ≡ f % 0x10 = mod-eq_of_lt (remainder f 16 (omega arith)) in
    omega (arith, scaled (is_unlimited f) 0x1000)

module _ (u : Bool) (priority : ℕ) where
  width_is : width_flags u priority ≡ bit u * 0x1000 + priority % 0x10
  unfolding width_flags
  width_is = omega (arith, scaled u 0x1000)

  pub unlimited-of : is_unlimited (width_flags u priority) ≡ u
  unlimited-of =
      let small : priority % 0x10 < 0x10 = remainder priority 16 (omega arith) in
      let q : width_flags u priority / 0x1000 ≡ bit u = omega (arith, width_is) in
      bit_is u (width_flags u priority / 0x1000 % 2) (omega (arith, bit-small u))

  pub priority-of : priority_of (width_flags u priority) ≡ priority % 0x10
  priority-of =
      let small : priority % 0x10 < 0x10 = remainder priority 16 (omega arith) in
      omega (arith, width_is)

-- what is kept stays so
pub kept-twice : (f : ℕ) → kept_flags (kept_flags f) ≡ kept_flags f
kept-twice f =
    ap₂ width_flags (unlimited-of (is_unlimited f) (priority_of f)) (priority-of (is_unlimited f) (priority_of f) ∙ mod-eq_of_lt (remainder f 16 (omega arith)))
