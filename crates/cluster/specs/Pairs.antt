-- What is read from a width cluster, each pair as the sheet writes it (document 01, "The table", the cluster, and "The sheet", section 5): the class is the low 7
-- bits of its field, a shrink limit is its size, ignored bits of flags are zero. Fields are read as if zeros followed the table.
use Rattle.std.specs.Prelude.{None, Option, Some}
use Rattle.std.specs.Prelude.{ℕ, zero, suc, ◌+◌, List, [], ◌∷◌}
use Rattle.std.proofs.Math.Option as math
use Rattle.fields.specs.Field.{u16_at, u32_at}
use Rattle.units.specs.Fixed.{fixed_size}
use Rattle.units.specs.Flags.{kept_flags}
use Rattle.types.specs.declared.Pair.{Pair}
use Rattle.cluster.specs.Faults.{pair_class}

unfoldable pub pair_at : List ℕ → ℕ → Pair
pair_at t at =
    record {
      class = pair_class t at;
      before = record { grow = u32_at t (at + 4); shrink = fixed_size (u32_at t (at + 8)) };
      after = record { grow = u32_at t (at + 12); shrink = fixed_size (u32_at t (at + 16)) };
      flags = record { grow = kept_flags (u16_at t (at + 20)); shrink = kept_flags (u16_at t (at + 22)) };
    }

-- n pairs from `at` on
unfoldable pub pairs_at : List ℕ → ℕ → ℕ → List Pair
pairs_at t zero at = []
pairs_at t (suc n) at = pair_at t at ∷ pairs_at t n (at + 24)

-- the pairs of the cluster at `at`
unfoldable pub cluster_at : List ℕ → ℕ → List Pair
cluster_at t at = pairs_at t (u32_at t at) (at + 4)

-- what the answer of `record_of` says
abbrev pub sought_pair : Option Pair → math.Option Pair
sought_pair (Some p) = math.some p
sought_pair None = math.none
