-- The fields of a cluster as numbers, in the order in which they are written: clusters are ordered by them, as words in a dictionary.
use Rattle.std.specs.Prelude.{ℕ, List, [], ◌∷◌, ◌++◌}
use Rattle.encoding.specs.Dictionary.{listed}
use Rattle.types.specs.declared.Flags.{Flags}
use Rattle.types.specs.declared.Limits.{Limits}
use Rattle.types.specs.declared.Pair.{Pair}

abbrev pub limits_words : Limits → List ℕ
limits_words l = l.grow ∷ l.shrink ∷ []

abbrev pub flags_words : Flags → List ℕ
flags_words f = f.grow ∷ f.shrink ∷ []

-- what stands in a pair after its class and its limits before
abbrev pub after_words : Pair → List ℕ
after_words p = limits_words p.after ++ flags_words p.flags

-- class; before grow and shrink, after grow and shrink; grow flags, shrink flags
abbrev pub pair_words : Pair → List ℕ
pair_words p = p.class ∷ (limits_words p.before ++ after_words p)

-- the count, then each pair's
unfoldable pub cluster_words : List Pair → List ℕ
cluster_words ps = listed pair_words ps
