-- A number below 2^32 for a cluster, the same for clusters that are the same: it tells where to look for one.
use Rattle.std.specs.Prelude.{ℕ, ◌+◌, ◌*◌, ◌%◌, List, [], ◌∷◌, length, take}
use Rattle.types.specs.declared.Limits.{Limits}
use Rattle.types.specs.declared.Pair.{Pair}

abbrev pub limits_hash : Limits → ℕ
limits_hash l = l.grow + 3 * l.shrink

abbrev pub pair_hash : Pair → ℕ
pair_hash p = 17 * p.class + (limits_hash p.before + 5 * limits_hash p.after) + (11 * p.flags.grow + 13 * p.flags.shrink)

-- that of pairs, after others or a count whose number is given
unfoldable pub pairs_hash : ℕ → List Pair → ℕ
pairs_hash hash [] = hash
pairs_hash hash (p ∷ ps) = pairs_hash ((31 * hash + pair_hash p) % 4294967296) ps

-- that of a cluster: by its count and its first four pairs
abbrev pub cluster_hash : List Pair → ℕ
cluster_hash ps = pairs_hash (length ps) (take 4 ps)
