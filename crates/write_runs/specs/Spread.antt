-- A list by stretches of equal elements: where each stretch ends, and its element. Glyphs in a row that have one value are handled at once.
use Rattle.std.specs.Prelude.{ℕ, ◌+◌, ◌-◌, ◌≤◌, ◌<◌, ◌^◌, ◌≡◌, List, [], ◌∷◌, ◌++◌, length, get_or, take, drop, replicate}

-- the list's elements from index i on: each of vs up to, but not with, the index that stands for it in the list of ends
unfoldable pub spread : {A : Type 0} → ℕ → List ℕ → List A → List A
spread i [] vs = []
spread i (e ∷ es) [] = []
spread i (e ∷ es) (v ∷ vs) = replicate (e - i) v ++ spread e es vs

-- the elements from index i to index r - 1 are equal, and the one at r, if there is one, is another
abbrev pub RunTo : List ℕ → ℕ → ℕ → Type 0
RunTo xs i r =
    (i < r) × (r ≤ length xs) × (drop i xs ≡ replicate (r - i) (get_or xs i 0) ++ drop r xs) × (r < length xs → get_or xs r 0 ≡ get_or xs i 0 → ⊥)

-- the ends rise from i on, so that no stretch is empty, and the last of them is n
abbrev pub Rise : ℕ → List ℕ → ℕ → Type 0
Rise i [] n = i ≡ n
Rise i (e ∷ es) n = (i < e) × Rise e es n

-- stretches of fewer than 65,536 places in all, each with its element
pub record Stretches (ends values : List ℕ) : Type 0 where
  pub last : ℕ
  pub few : last < 2 ^ 16
  pub rise : Rise 0 ends last
  pub each : length values ≡ length ends

-- what was given by the first m stretches, up to index g, is given up to index e by the first r: a number was added e - g times. A stretch is added only
-- where the last one has another number
pub record Extended (ends₀ nums₀ ends nums : List ℕ) (m g e number r : ℕ) : Type 0 where
  pub rise : Rise 0 (take r ends) e
  pub all : spread 0 (take r ends) (take r nums) ≡ spread 0 (take m ends₀) (take m nums₀) ++ replicate (e - g) number
  pub last : get_or nums (r - 1) 0 ≡ number
  pub least : m ≤ r
  pub most : r ≤ m + 1
  pub same : r ≡ m → (0 < m) × (get_or nums₀ (m - 1) 0 ≡ number)
