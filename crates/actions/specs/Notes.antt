-- Notes of what was judged, one for each position of a table, so that what many values lead to, and what many lists have, is judged once. A note is the sum of 1
-- where a list begins that was found without fault, 2 where such a cluster begins, and 4 for each action, up to 63 from the one that begins there on, that is known
-- to have no fault: lists can overlap, and one that begins where so many are known is judged without a step.
use Rattle.std.specs.Prelude.{ℕ, ◌/◌, ◌%◌, ◌≤◌, ◌≡◌, List, get_or}
use Rattle.fields.specs.Faults.{Clear}
use Rattle.actions.specs.Faults.{actions_fault}

-- actions that are noted as known have no fault
pub record Passed (t : List ℕ) (glyphs : ℕ) (notes : List ℕ) : Type 0 where
  pub clear : (i : ℕ) → actions_fault t glyphs (get_or notes i 0 / 4) i ≡ Clear

-- what judging actions makes of the notes: those of actions are true and tell no less than they did, those of lists and clusters are kept
pub record Passing (t : List ℕ) (glyphs : ℕ) (before after : List ℕ) : Type 0 where
  pub passed : Passed t glyphs after
  pub kept : (i : ℕ) → get_or before i 0 / 4 ≤ get_or after i 0 / 4
  pub rest : (i : ℕ) → get_or after i 0 % 4 ≡ get_or before i 0 % 4
