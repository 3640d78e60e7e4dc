-- A text put into lent bytes: what stands there afterwards, and what is answered.
use Rattle.std.specs.Prelude.{ℕ, ◌+◌, ◌≡◌, List, ◌++◌, length, drop}
use Rattle.std.proofs.lemmas.List.Edits.{sets}

-- at a place: the answer is where the text ends
pub record Stored (text : List ℕ) (at : ℕ) (entry exit : List ℕ) (answer : ℕ) : Type 0 where
  pub end : answer ≡ at + length text
  pub bytes : exit ≡ sets entry at text

-- at the start: the answer is the length of the text, and what follows it is as it was
pub record Printed (text entry exit : List ℕ) (answer : ℕ) : Type 0 where
  pub count : answer ≡ length text
  pub bytes : exit ≡ text ++ drop (length text) entry
