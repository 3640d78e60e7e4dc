-- Records in a lent list (document 01, "Verdicts" and "Numbers of refusal"): the first of a line's verdicts stand at its front, and the rest of
-- the list is as it was.
use Rattle.std.specs.Prelude.{ℕ, ◌≤◌, List, ◌++◌, length, take, drop}
use Rattle.types.specs.declared.Verdict.{Verdict}
use Rattle.line_verdicts.specs.Bits.{told, BitPairs}

-- a list with the first n of some verdicts at its front
unfoldable pub filled_with : List Verdict → ℕ → List Verdict → List Verdict
filled_with verdicts n list = take n verdicts ++ drop n list

-- what is asked of n verdicts that are to be stored: there is room for them, and so many are told
pub record Storable (bits : List ℕ) (n space : ℕ) : Type 0 where
  pub room : n ≤ space
  pub most : n ≤ length (told bits)
  pub kept : BitPairs bits
