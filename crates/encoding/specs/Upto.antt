-- The list of a function's values: `upto f n` is f 0, f 1, .., f (n - 1).
use Rattle.std.specs.Prelude.{ℕ, zero, suc, List, [], ◌∷◌}

-- f i, f (i + 1), .. : n of them
unfoldable pub from : {A : Type 0} → (ℕ → A) → ℕ → ℕ → List A
from f zero i = []
from f (suc n) i = f i ∷ from f n (suc i)

abbrev pub upto : {A : Type 0} → (ℕ → A) → ℕ → List A
upto f n = from f n 0
