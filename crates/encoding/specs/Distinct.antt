-- The distinct elements of a list in order of first use, and each element's number among them (document 01, "The sheet",
-- sections 3 to 8).
use Rattle.std.specs.Prelude.{ℕ, suc, ◌≤◌, ◌<◌, ◌≡◌, List, [], ◌∷◌, ◌++◌, length, get_or}
use Rattle.std.proofs.Math.Logic.{ite}
use Rattle.std.proofs.Math.Decide.{ℕ_discrete}

module _ {A : Type 0} (eq : Discrete A) where
  -- the index of the first element of the list that is x, or the list's length
  abbrev pub index : A → List A → ℕ
  index x [] = 0
  index x (d ∷ ds) = ite (eq d x) 0 (suc (index x ds))

  -- the elements seen before, then those of xs that are not among them, each where it is first used; distinct [] xs are the
  -- distinct elements of xs
  abbrev pub distinct : List A → List A → List A
  distinct seen [] = seen
  distinct seen (x ∷ xs) = ite (ℕ_discrete (index x seen) (length seen)) (distinct (seen ++ (x ∷ [])) xs) (distinct seen xs)

  -- the number of each element of a list among ds
  abbrev pub numbers : List A → List A → List ℕ
  numbers ds [] = []
  numbers ds (x ∷ xs) = index x ds ∷ numbers ds xs

-- the elements with these numbers; z stands for a number past the end
abbrev pub elements : {A : Type 0} → A → List A → List ℕ → List A
elements z ds [] = []
elements z ds (i ∷ is) = get_or ds i z ∷ elements z ds is

-- what is judged of numbers, one after the other: they come in order of first use, k of them used before, and m in all
abbrev pub InOrder : ℕ → ℕ → List ℕ → Type 0
InOrder m k [] = k ≡ m
InOrder m k (i ∷ is) = (i ≤ k) × InOrder m (ite (ℕ_discrete i k) (suc k) k) is

-- no element is there twice: each one's index is its own place
abbrev pub Once : {A : Type 0} → Discrete A → List A → Type 0
Once eq ds = (k : ℕ) (z : _) → k < length ds → index eq (get_or ds k z) ds ≡ k
