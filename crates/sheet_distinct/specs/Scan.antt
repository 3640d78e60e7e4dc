-- Items that stand one after the other in bytes, with an offset where each begins and one where the last ends (document 01, "The sheet": the items of a
-- section after its count).
use Rattle.std.specs.Prelude.{ℕ, ◌≤◌, ◌<◌, ◌≡◌, List, ◌++◌, length, get_or, drop, Option, Some, None}
use Rattle.encoding.specs.Codes.{All, many}
use Rattle.sheet_distinct.specs.Order.{stretch}

-- i valid items stand from p on and end before b, and the offsets are where they begin and end
pub record Scanned {A : Type 0} (code : A → List ℕ) (ok : A → Type 0) (s : List ℕ) (p i b : ℕ) (offsets : List ℕ) : Type 0 where
  pub ds : List A
  pub count : length ds ≡ i
  pub good : All ok ds
  pub bound : b ≤ length s
  pub bytes : drop p s ≡ many code ds ++ drop b s
  pub last : get_or offsets i 0 ≡ b
  pub stretches : (k : ℕ) (z : A) → k < i → stretch s offsets k ≡ code (get_or ds k z)

-- no m valid items stand from p on
unfoldable pub NoItems : {A : Type 0} → (A → List ℕ) → (A → Type 0) → List ℕ → ℕ → ℕ → Type 0
NoItems code ok s p m = (ys : List _) (rest : List ℕ) → All ok ys → length ys ≡ m → drop p s ≡ many code ys ++ rest → ⊥

-- what a scan for m items finds
abbrev pub Scans : {A : Type 0} → (A → List ℕ) → (A → Type 0) → List ℕ → ℕ → ℕ → Option ℕ → List ℕ → Type 0
Scans code ok s p m (Some q) offsets = Scanned code ok s p m q offsets
Scans code ok s p m None offsets = NoItems code ok s p m
