-- Lists of numbers in the order of words in a dictionary, which is decided; and the words of items that stand one after the other.
use Rattle.std.specs.Prelude.{ℕ, ◌<◌, ◌≡◌, Bool, ◌⊎◌, List, [], ◌∷◌, length}
use Rattle.std.proofs.Common.{inl, inr, ⊎_elim}
use Rattle.std.proofs.Math.Decide.{ℕ_discrete, dec_lt}
use Rattle.encoding.specs.Codes.{many, PrefixFree}
use Rattle.encoding.specs.Tests.{Says}

-- a comes no later than b in a dictionary
abbrev pub Le : List ℕ → List ℕ → Type 0
Le [] b = Unit {0}
Le (x ∷ a) [] = ⊥
Le (x ∷ a) (y ∷ b) = (x < y) ⊎ ((x ≡ y) × Le a b)

-- a comes before b
abbrev pub Before : List ℕ → List ℕ → Type 0
Before a b = Le b a → ⊥

-- the words of items one after the other, after their count
abbrev pub listed : {A : Type 0} → (A → List ℕ) → List A → List ℕ
listed words xs = length xs ∷ many words xs

-- no item's words begin another's, and no two items have the same
abbrev pub Free : {A : Type 0} → (A → List ℕ) → Type 0
Free words = PrefixFree words (λ x. Unit {0})

-- us and vs are what is left to compare of two rows of items, xs and ys: they tell whether the rows are the same, and which comes before
pub record Left {A : Type 0} (words : A → List ℕ) (xs ys us vs : List A) : Type 0 where
  pub same : us ≡ vs → xs ≡ ys
  pub rest : xs ≡ ys → us ≡ vs
  pub tells : (earlier : Bool) → Says earlier (Before (many words us) (many words vs)) → Says earlier (Before (many words xs) (many words ys))

-- two rows of items are not the same, and two items that differ, the one of the first row and the other of the second, tell which row comes before
pub record Apart {A : Type 0} (words : A → List ℕ) (xs ys : List A) (one other : A) : Type 0 where
  pub differ : xs ≡ ys → ⊥
  pub tells : (earlier : Bool) → Says earlier (Before (words one) (words other)) → Says earlier (Before (many words xs) (many words ys))

-- ---- the order is decided

le-decide : (x y : ℕ) (a b : List ℕ) → Dec (x < y) → Dec (x ≡ y) → Dec (Le a b) → Dec (Le (x ∷ a) (y ∷ b))
le-decide x y a b (yes p) e d = yes (inl p)
le-decide x y a b (no p) (no q) d = no (λ h. ⊎_elim p (λ k. q k.0) h)
le-decide x y a b (no p) (yes q) (yes d) = yes (inr (q, d))
le-decide x y a b (no p) (yes q) (no d) = no (λ h. ⊎_elim p (λ k. d k.1) h)

pub le-dec : (a b : List ℕ) → Dec (Le a b)
le-dec [] b = yes tt
le-dec (x ∷ a) [] = no (λ h. h)
le-dec (x ∷ a) (y ∷ b) = le-decide x y a b (dec_lt x y) (ℕ_discrete x y) (le-dec a b)
