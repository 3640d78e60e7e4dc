-- What is distinct among items that stand one after the other in bytes (document 01, "The sheet", sections 5 and 7: compared as written). The bytes
-- between two offsets are a stretch.
use Rattle.std.specs.Prelude.{ℕ, ◌+◌, ◌≡◌, List, [], ◌∷◌, get_or}
use Rattle.std.proofs.Math.Seq.{slice}
use Rattle.encoding.specs.Codes.{All}
use Rattle.encoding.specs.Upto.{from}

-- the bytes of s from offset i to offset i + 1; nothing of them stands past the end of s
unfoldable pub stretch : List ℕ → List ℕ → ℕ → List ℕ
stretch s offsets i = slice (get_or offsets i 0) (get_or offsets (i + 1) 0) s

-- no two elements of a list have the same f
abbrev pub Apart : {A B : Type 0} → (A → B) → List A → Type 0
Apart f [] = Unit {0}
Apart f (x ∷ xs) = All (λ (y : _). f x ≡ f y → ⊥) xs × Apart f xs

-- the numbers from i on, k of them
abbrev pub up_from : ℕ → ℕ → List ℕ
up_from i k = from (λ (x : ℕ). x) k i
