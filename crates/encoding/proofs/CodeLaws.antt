-- Numbers and counted sections are prefix free, and the number that stands at a place of some bytes is written there: where the same number stands, so
-- do the same bytes.
use Prim.Native.Nat.{ℕ, suc, ◌+◌, ◌*◌, ◌/◌, ◌%◌, ◌≤◌, ◌<◌, ◌^◌}
use mathlib.Core.Path.{◌≡◌, refl, sym, ap, ap₂, ◌∙◌}
use mathlib.Core.List.{List, [], ◌∷◌, ◌++◌, append_assoc, head-eq_of_cons-eq, tail-eq_of_cons-eq}
use native.Mathlib.Omega.{arith}
use native.Mathlib.Nat.{suc-mul}
use lib.ListN.{length, get_or, drop, length-append}
use lib.Seq.{drop-cons}
use Rattle.fields.specs.Field.{be16, be32, u16_at, u32_at, Bytes}
use Rattle.fields.proofs.Laws.{u16_at-fits}
use Rattle.encoding.specs.Codes.{All, many, counted, PrefixFree}

pub be16-free : PrefixFree be16 (λ n. n < 2 ^ 16)
be16-free a b s t ha hb e =
    let h1 : a / 256 % 256 ≡ b / 256 % 256 = head-eq_of_cons-eq e in
    let e1 = tail-eq_of_cons-eq e in
    let h0 : a % 256 ≡ b % 256 = head-eq_of_cons-eq e1 in
    (omega arith, tail-eq_of_cons-eq e1)

pub be32-free : PrefixFree be32 (λ n. n < 2 ^ 32)
be32-free a b s t ha hb e =
    let f = be16-free (a / 65536) (b / 65536) (be16 (a % 65536) ++ s) (be16 (b % 65536) ++ t) (omega arith) (omega arith) e in
    let g = be16-free (a % 65536) (b % 65536) s t (omega arith) (omega arith) f.1 in
    (omega (arith, f.0, g.0), g.1)

module _ {A : Type 0} (code : A → List ℕ) (ok : A → Type 0) (free : PrefixFree code ok) where
  -- the first of two codes taken off both sides
  pub peel : (a a' : A) (x x' s t : List ℕ) → ok a → ok a' → (code a ++ x) ++ s ≡ (code a' ++ x') ++ t → (a ≡ a') × (x ++ s ≡ x' ++ t)
  peel a a' x x' s t h h' e =
      free a a' (x ++ s) (x' ++ t) h h' (sym (append_assoc (code a) x s) ∙ e ∙ append_assoc (code a') x' t)

  pub many-free : (xs ys : List A) (s t : List ℕ) → length xs ≡ length ys → All ok xs → All ok ys
      → many code xs ++ s ≡ many code ys ++ t → (xs ≡ ys) × (s ≡ t)
  many-free [] [] s t l a b e = (refl, e)
  many-free [] (y ∷ ys) s t l a b e = absurd (omega arith)
  many-free (x ∷ xs) [] s t l a b e = absurd (omega arith)
  many-free (x ∷ xs) (y ∷ ys) s t l a b e =
      let f = free x y (many code xs ++ s) (many code ys ++ t) a.0 b.0
      (sym (append_assoc (code x) (many code xs) s) ∙ e ∙ append_assoc (code y) (many code ys) t) in
      let g = many-free xs ys s t (omega arith) a.1 b.1 f.1 in
      (ap₂ (λ (u : A) (v : List A). u ∷ v) f.0 g.0, g.1)

  -- a section's valid values: fewer than 2^32 valid items
  abbrev pub Few : List A → Type 0
  Few xs = (length xs < 2 ^ 32) × All ok xs

  pub counted-free : PrefixFree (counted code) Few
  counted-free xs ys s t a b e =
      let f = be32-free (length xs) (length ys) (many code xs ++ s) (many code ys ++ t) a.0 b.0
      (sym (append_assoc (be32 (length xs)) (many code xs) s) ∙ e ∙ append_assoc (be32 (length ys)) (many code ys) t) in
      many-free xs ys s t f.0 a.1 b.1 f.1

pub many-length : {A : Type 0} (code : A → List ℕ) (k : ℕ) (each : (a : A) → length (code a) ≡ k) (xs : List A)
    → length (many code xs) ≡ length xs * k
many-length code k each [] = omega arith
many-length code k each (x ∷ xs) =
    length-append (code x) (many code xs) ∙ ap₂ ◌+◌ (each x) (many-length code k each xs) ∙ (omega (arith, suc-mul (length xs) k))

-- what stands at p
module _ (s : List ℕ) (bytes : Bytes s) where
  be16-two : (h l : ℕ) (r : List ℕ) → h < 256 → l < 256 → be16 (h * 256 + l) ++ r ≡ h ∷ l ∷ r
  be16-two h l r hh hl =
      let a : (h * 256 + l) / 256 % 256 ≡ h = omega arith in
      let b : (h * 256 + l) % 256 ≡ l = omega arith in
      ap₂ (λ (x y : ℕ). x ∷ y ∷ r) a b

  pub be16-at : (p : ℕ) → p + 2 ≤ length s → drop p s ≡ be16 (u16_at s p) ++ drop (p + 2) s
  unfolding u16_at
  be16-at p h =
      let e : suc p ≡ p + 1 = omega arith in
      let f : suc (p + 1) ≡ p + 2 = omega arith in
      drop-cons s p 0 (omega arith)
      ∙ ap (λ (r : List ℕ). get_or s p 0 ∷ r) (ap (λ (q : ℕ). drop q s) e ∙ drop-cons s (p + 1) 0 (omega arith) ∙ ap (λ (q : ℕ). get_or s (p + 1) 0 ∷ drop q s) f)
      ∙ sym (be16-two (get_or s p 0) (get_or s (p + 1) 0) (drop (p + 2) s) (bytes p) (bytes (p + 1)))

  pub be32-at : (p : ℕ) → p + 4 ≤ length s → drop p s ≡ be32 (u32_at s p) ++ drop (p + 4) s
  unfolding u32_at
  be32-at p h =
      let l1 = u16_at-fits s (p + 2) bytes in
      let a : u32_at s p / 65536 ≡ u16_at s p = omega arith in
      let b : u32_at s p % 65536 ≡ u16_at s (p + 2) = omega arith in
      let e : p + 2 + 2 ≡ p + 4 = omega arith in
      be16-at p (omega arith)
      ∙ ap (λ (r : List ℕ). be16 (u16_at s p) ++ r) (be16-at (p + 2) (omega arith) ∙ ap (λ (q : ℕ). be16 (u16_at s (p + 2)) ++ drop q s) e)
      ∙ ap₂ (λ (x y : ℕ). be16 x ++ (be16 y ++ drop (p + 4) s)) (sym a) (sym b)

-- two numbers that are equal have equal parts, wherever they stand
module _ (s u : List ℕ) (bytes : Bytes s) (others : Bytes u) (i j : ℕ) where
  pub half-bytes : u16_at s i ≡ u16_at u j → (get_or s i 0 ≡ get_or u j 0) × (get_or s (i + 1) 0 ≡ get_or u (j + 1) 0)
  unfolding u16_at
  half-bytes e =
      let p : (get_or s i 0 < 256) × (get_or s (i + 1) 0 < 256) × (get_or u j 0 < 256) × (get_or u (j + 1) 0 < 256) = (bytes i, bytes (i + 1), others j, others (j + 1)) in
      (omega (arith, e), omega (arith, e))

  pub word-halves : u32_at s i ≡ u32_at u j → (u16_at s i ≡ u16_at u j) × (u16_at s (i + 2) ≡ u16_at u (j + 2))
  unfolding u32_at
  word-halves e =
      let p = u16_at-fits s (i + 2) bytes in
      let q = u16_at-fits u (j + 2) others in
      (omega (arith, e), omega (arith, e))
