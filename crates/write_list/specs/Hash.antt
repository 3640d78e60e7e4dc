-- A number below 2^32 for an action list, the same for lists that are the same: it tells where to look for one.
use Rattle.std.specs.Prelude.{ℕ, ◌+◌, ◌*◌, ◌%◌, List, [], ◌∷◌, length}
use Rattle.meaning.specs.Meaning.{Action}

-- the running sums of bytes added up, so that their order counts; after others whose sum and total are given
unfoldable pub weight : ℕ → ℕ → List ℕ → ℕ
weight sum total [] = total
weight sum total (b ∷ bs) = weight (sum + b) (total + (sum + b)) bs

abbrev pub action_hash : Action → ℕ
action_hash a = a.class * 65536 + a.ty + weight 0 0 a.content

-- that of actions, after others or a count whose number is given
unfoldable pub actions_hash : ℕ → List Action → ℕ
actions_hash hash [] = hash
actions_hash hash (a ∷ l) = actions_hash ((31 * hash + action_hash a) % 4294967296) l

-- that of a list: by its count and its actions
abbrev pub list_hash : List Action → ℕ
list_hash l = actions_hash (length l) l
