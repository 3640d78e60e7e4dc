-- Laws of numbers stored one after the other: `sets l i xs` is the list l with xs from its index i on, as far as l goes.
use Rattle.std.specs.Prelude.{ℕ, suc, ◌+◌, ◌≤◌, ◌≡◌, refl, List, [], ◌∷◌, ◌++◌, length, set}
use Rattle.std.proofs.Common.{sym, ap, ap₂, ◌∙◌, arith}
use Rattle.std.proofs.lemmas.List.Edits.{sets}
use Rattle.std.proofs.Math.Seq.{set_out, length-sets}

module _ {A : Type 0} where
  pub sets-append : (xs ys l : List A) (i : ℕ) → sets l i (xs ++ ys) ≡ sets (sets l i xs) (i + length xs) ys
  sets-append [] ys l i = let e : i ≡ i + 0 = omega arith in ap (λ (k : ℕ). sets l k ys) e
  sets-append (x ∷ xs) ys l i =
      let e : suc i + length xs ≡ i + suc (length xs) = omega arith in
      sets-append xs ys (set l i x) (suc i) ∙ ap (λ (k : ℕ). sets (sets (set l i x) (suc i) xs) k ys) e

  -- nothing is stored past the end
  pub sets-out : (xs l : List A) (i : ℕ) → length l ≤ i → sets l i xs ≡ l
  sets-out [] l i h = refl
  sets-out (x ∷ xs) l i h =
      let e : length l ≤ suc i = omega arith in
      ap (λ (k : List A). sets k (suc i) xs) (set_out l i x h) ∙ sets-out xs l (suc i) e

  -- two stores, the second right after the first, are one
  pub put_two : (xs ys l₀ l₁ l₂ : List A) (i j : ℕ) → j ≡ i + length xs → l₁ ≡ sets l₀ i xs → l₂ ≡ sets l₁ j ys → l₂ ≡ sets l₀ i (xs ++ ys)
  put_two xs ys l₀ l₁ l₂ i j e a b = b ∙ ap₂ (λ (l : List A) (k : ℕ). sets l k ys) a e ∙ sym (sets-append xs ys l₀ i)

  -- what is left to store after a store of its first part
  pub put_next : (xs ys zs l₀ l₁ end : List A) (i j : ℕ) → zs ≡ xs ++ ys → j ≡ i + length xs → l₁ ≡ sets l₀ i xs → sets l₀ i zs ≡ end
      → sets l₁ j ys ≡ end
  put_next xs ys zs l₀ l₁ end i j ez ej a e =
      ap₂ (λ (l : List A) (k : ℕ). sets l k ys) a ej ∙ sym (sets-append xs ys l₀ i) ∙ ap (sets l₀ i) (sym ez) ∙ e

  pub put-length : (xs l₀ l₁ : List A) (i n : ℕ) → l₁ ≡ sets l₀ i xs → length l₀ ≡ n → length l₁ ≡ n
  put-length xs l₀ l₁ i n a e = ap length a ∙ length-sets l₀ i xs ∙ e

  -- what would stand past the end is not stored
  pub put-part : (xs ys l₀ l₁ : List A) (i : ℕ) → length l₀ ≤ i + length xs → l₁ ≡ sets l₀ i xs → l₁ ≡ sets l₀ i (xs ++ ys)
  put-part xs ys l₀ l₁ i h a =
      let e : length l₁ ≤ i + length xs = omega (arith, h, put-length xs l₀ l₁ i (length l₀) a refl) in
      put_two xs ys l₀ l₁ l₁ i (i + length xs) refl a (sym (sets-out ys l₁ (i + length xs) e))
