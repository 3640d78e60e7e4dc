-- Clusters in the bytes of a sheet (document 01, "The sheet", section 5): each its 32-bit pair count and 24-byte pairs.
use Rattle.std.specs.Prelude.{ℕ, ◌+◌, ◌≤◌, List, length}
use Rattle.fields.specs.Field.{u16_at, u32_at}
use Rattle.encoding.specs.Codes.{All, counted}
use Rattle.types.specs.declared.Limits.{Limits}
use Rattle.types.specs.declared.Pair.{Pair}
use Rattle.meaning.specs.Limits.{OkPair, OkCluster, Rising}
use Rattle.meaning.specs.Sheet.{pair_code}

-- a side's limits, and the pair, that stand at a place
abbrev pub limits_at : List ℕ → ℕ → Limits
limits_at bytes at = record { grow = u32_at bytes at; shrink = u32_at bytes (at + 4) }

abbrev pub pair_at : List ℕ → ℕ → Pair
pair_at bytes at =
    record {
      class = u32_at bytes at;
      before = limits_at bytes (at + 4);
      after = limits_at bytes (at + 12);
      flags = record { grow = u16_at bytes (at + 20); shrink = u16_at bytes (at + 22) };
    }

-- a pair that may follow those of classes below `least`
abbrev pub GoodPair : ℕ → Pair → Type 0
GoodPair least p = (least ≤ p.class) × OkPair p

abbrev pub GoodPairs : ℕ → List Pair → Type 0
GoodPairs least ps = All OkPair ps × Rising least ps

-- a cluster's bytes
abbrev pub cluster_code : List Pair → List ℕ
cluster_code = counted pair_code

-- a cluster that is written has a pair or more: no pairs stand for no cluster
abbrev pub SomeCluster : List Pair → Type 0
SomeCluster ps = (1 ≤ length ps) × OkCluster ps
