-- The fields of an action list as numbers, in the order in which they are written: lists are ordered by them, as words in a dictionary.
use Rattle.std.specs.Prelude.{ℕ, List, ◌∷◌}
use Rattle.encoding.specs.Dictionary.{listed}
use Rattle.encoding.specs.Sections.{byte}
use Rattle.meaning.specs.Meaning.{Action}

-- class, type, and the data after its length
abbrev pub action_words : Action → List ℕ
action_words a = a.class ∷ a.ty ∷ listed byte a.content

-- the count, then each action's
unfoldable pub list_words : List Action → List ℕ
list_words l = listed action_words l
