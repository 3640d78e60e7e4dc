-- The maximal runs of equal neighbours in a list, one value left out (document 01, "The sheet", sections 2, 6 and 8).
use Rattle.std.specs.Prelude.{ℕ, suc, ◌-◌, ◌≤◌, ◌<◌, ◌≡◌, List, [], ◌∷◌, ◌++◌, replicate}
use Rattle.std.proofs.Math.Logic.{ite}
use Rattle.std.proofs.Math.Decide.{ℕ_discrete}

-- the elements from index first to index last are value
pub record Run (A : Type 0) : Type 0 where
  pub first : ℕ
  pub last : ℕ
  pub value : A

module _ {A : Type 0} (eq : Discrete A) where
  -- x at index i, ahead of runs that begin later: the first of them is made longer where it touches and has the value x
  abbrev pub push : ℕ → A → List (Run A) → List (Run A)
  push i x [] = record { first = i; last = i; value = x } ∷ []
  push i x (r ∷ rs) =
      ite (ℕ_discrete r.first (suc i))
      (ite (eq r.value x)
      (record { first = i; last = r.last; value = x } ∷ rs)
      (record { first = i; last = i; value = x } ∷ r ∷ rs))
      (record { first = i; last = i; value = x } ∷ r ∷ rs)

  -- the maximal runs of a list whose first element has the index i; an element that is skip is in no run
  abbrev pub runs : A → ℕ → List A → List (Run A)
  runs skip i [] = []
  runs skip i (x ∷ xs) = ite (eq x skip) (runs skip (suc i) xs) (push i x (runs skip (suc i) xs))

module _ {A : Type 0} where
  -- the list of indices i to n - 1 that has these runs, and skip elsewhere
  abbrev pub unrun : A → ℕ → ℕ → List (Run A) → List A
  unrun skip i n [] = replicate (n - i) skip
  unrun skip i n (r ∷ rs) =
      replicate (r.first - i) skip ++ (replicate (suc r.last - r.first) r.value ++ unrun skip (suc r.last) n rs)

  -- what is judged of runs, one after the other: they rise from i on, end below n, have values other than skip, and no two
  -- touch with one value; w is the value of a run that ends just before i
  abbrev pub OkRuns : A → ℕ → ℕ → A → List (Run A) → Type 0
  OkRuns skip n i w [] = i ≤ n
  OkRuns skip n i w (r ∷ rs) =
      (i ≤ r.first) × (r.first ≤ r.last) × (r.last < n) × (r.value ≡ skip → ⊥) × (r.first ≡ i → r.value ≡ w → ⊥)
      × OkRuns skip n (suc r.last) r.value rs
