-- Values written as bytes, one after the other and after their count (document 01, "The sheet"), and such values found in bytes.
-- A code gives the bytes of a value.
use Rattle.std.specs.Prelude.{ℕ, zero, suc, ◌+◌, ◌≤◌, ◌≡◌, List, [], ◌∷◌, ◌++◌, length, drop}
use Rattle.fields.specs.Field.{be32}

-- P holds of each element
abbrev pub All : {A : Type 0} → (A → Type 0) → List A → Type 0
All P [] = Unit {0}
All P (x ∷ xs) = P x × All P xs

-- the items one after the other, and the same after their 32-bit count
abbrev pub many : {A : Type 0} → (A → List ℕ) → List A → List ℕ
many code [] = []
many code (x ∷ xs) = code x ++ many code xs

abbrev pub counted : {A : Type 0} → (A → List ℕ) → List A → List ℕ
counted code xs = be32 (length xs) ++ many code xs

-- no valid value's bytes begin another's, and no two values have the same
abbrev pub PrefixFree : {A : Type 0} → (A → List ℕ) → (A → Type 0) → Type 0
PrefixFree code ok = (a b : _) (s t : List ℕ) → ok a → ok b → code a ++ s ≡ code b ++ t → (a ≡ b) × (s ≡ t)

-- the bytes of a valid value stand at a place and end before q; or those of no valid value stand there
abbrev pub Found : {A : Type 0} → (A → List ℕ) → (A → Type 0) → List ℕ → ℕ → ℕ → Type 0
Found code ok s at q = (x : _) × ok x × (q ≤ length s) × (drop at s ≡ code x ++ drop q s)

abbrev pub Absent : {A : Type 0} → (A → List ℕ) → (A → Type 0) → List ℕ → ℕ → Type 0
Absent code ok s at = (x : _) (rest : List ℕ) → ok x → drop at s ≡ code x ++ rest → ⊥

-- k items of w bytes each, read one after the other from p on
abbrev pub items_at : {A : Type 0} → (List ℕ → ℕ → A) → ℕ → List ℕ → ℕ → ℕ → List A
items_at item w s p zero = []
items_at item w s p (suc k) = item s p ∷ items_at item w s (p + w) k
