-- Marks, and stretches between them as the code reads them: no further than to the end of the bytes.
use Prim.Native.Nat.{ℕ, zero, suc, ◌+◌, ◌-◌, ◌≤◌, ◌<◌, min}
use mathlib.Core.Path.{◌≡◌, sym, ap, ap₂, ◌∙◌}
use mathlib.Core.List.{List, [], ◌∷◌}
use native.Mathlib.Decide.{dec_lt}
use native.Mathlib.Omega.{arith}
use lib.ListN.{length, get_or, take, drop, length-take, drop_of_length-le}
use lib.Seq.{slice, take_all}
use Rattle.sheet_distinct.specs.Order.{stretch}
use Rattle.sheet_distinct.specs.Slots.{edge}

pub drop-take : (q b : ℕ) (s : List ℕ) → drop b (take q s) ≡ take (q - b) (drop b s)
drop-take q zero s = ap (λ (k : ℕ). take k s) (less q)
  where
    less : (q : ℕ) → q ≡ q - 0
    less q = omega arith
drop-take zero (suc b) s = ap (λ (k : ℕ). take k (drop (suc b) s)) (none b)
  where
    none : (b : ℕ) → 0 ≡ 0 - suc b
    none b = omega arith
drop-take (suc q) (suc b) [] = sym (lib.Seq.take-nil (suc q - suc b))
drop-take (suc q) (suc b) (x ∷ s) = drop-take q b s ∙ ap (λ (k : ℕ). take k (drop b s)) (down q b)
  where
    down : (q b : ℕ) → q - b ≡ suc q - suc b
    down q b = omega arith

-- what lies past the end is no part of a slice
take-clipped : (b : ℕ) (s : List ℕ) → take (min b (length s)) s ≡ take b s
take-clipped b s = go (dec_lt b (length s))
  where
    go : Dec (b < length s) → take (min b (length s)) s ≡ take b s
    go (yes h) = let e : min b (length s) ≡ b = omega arith in ap (λ (k : ℕ). take k s) e
    go (no h) =
        let e : min b (length s) ≡ length s = omega (arith, h) in
        ap (λ (k : ℕ). take k s) e ∙ take_all (length s) s (omega arith) ∙ sym (take_all b s (omega (arith, h)))

pub slice-clipped : (a b : ℕ) (s : List ℕ) → slice (min a (length s)) (min b (length s)) s ≡ slice a b s
slice-clipped a b s = ap (drop (min a (length s))) (take-clipped b s) ∙ go (dec_lt a (length s))
  where
    past : (k : ℕ) → length s ≤ k → slice k b s ≡ []
    past k h = drop_of_length-le (take b s) {i = k} (simp length-take (omega arith))

    go : Dec (a < length s) → slice (min a (length s)) b s ≡ slice a b s
    go (yes h) = let e : min a (length s) ≡ a = omega arith in ap (λ (k : ℕ). slice k b s) e
    go (no h) = past (min a (length s)) (omega (arith, h)) ∙ sym (past a (omega (arith, h)))

-- a stretch as it is read, by its two offsets
module _ (s offsets : List ℕ) (k i j a b : ℕ) (ei : i ≡ k) (ej : j ≡ i + 1) (ea : a ≡ edge s offsets i) (eb : b ≡ edge s offsets j) where
  stretch-is : slice a b s ≡ stretch s offsets k
  unfolding stretch
  stretch-is =
      let f : j ≡ k + 1 = omega arith in
      ap₂ (λ (u v : ℕ). slice u v s) ea eb ∙ slice-clipped (get_or offsets i 0) (get_or offsets j 0) s
      ∙ ap₂ (λ (u v : ℕ). slice (get_or offsets u 0) (get_or offsets v 0) s) ei f

  pub stretch-none : b < a → [] ≡ stretch s offsets k
  stretch-none h = sym (drop_of_length-le (take b s) {i = a} (simp length-take (omega arith))) ∙ stretch-is

  pub stretch-cut : take (b - a) (drop a s) ≡ stretch s offsets k
  stretch-cut = sym (drop-take b a s) ∙ stretch-is
