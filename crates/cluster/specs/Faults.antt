-- The first fault of a width cluster (document 01, "The table", the cluster, and "Numbers of refusal", 4 and 6): fields in stored order, each found inside the
-- table before it is judged, the count before the pairs.
use Rattle.std.specs.Prelude.{ℕ, ◌+◌, ◌%◌, List, ◌&&◌, leb}
use Rattle.fields.specs.Faults.{FirstFault}
use Rattle.fields.specs.declared.Refusal.TheVariants.{BadCluster}
use Rattle.fields.specs.Field.{u16_at, u32_at}
use Rattle.fields.specs.Faults.{◌then◌, rule, inside}
use Rattle.fields.specs.Walk.{walk}
use Rattle.units.specs.Fixed.{fixed_size}
use Rattle.units.specs.Flags.{priority_of}
use Rattle.meaning.specs.Limits.{em_limit}

-- a pair's class: the low 7 bits of its field
unfoldable pub pair_class : List ℕ → ℕ → ℕ
pair_class t at = u32_at t at % 128

unfoldable pub pair_class_fault : List ℕ → ℕ → ℕ → FirstFault
pair_class_fault t at least = inside t at 4 then rule (leb least (pair_class t at)) BadCluster at

unfoldable pub grow_fault : List ℕ → ℕ → FirstFault
grow_fault t at = inside t at 4 then rule (leb (u32_at t at) em_limit) BadCluster at

-- the sign of a shrink limit is not judged
unfoldable pub shrink_fault : List ℕ → ℕ → FirstFault
shrink_fault t at = inside t at 4 then rule (leb (fixed_size (u32_at t at)) em_limit) BadCluster at

unfoldable pub flags_fault : List ℕ → ℕ → FirstFault
flags_fault t at = inside t at 2 then rule (leb (priority_of (u16_at t at)) 3) BadCluster at

-- the pair at `at`, whose class must be `least` or more
unfoldable pub pair_fault : List ℕ → ℕ → ℕ → FirstFault
pair_fault t at least =
    pair_class_fault t at least
    then grow_fault t (at + 4)
    then shrink_fault t (at + 8)
    then grow_fault t (at + 12)
    then shrink_fault t (at + 16)
    then flags_fault t (at + 20)
    then flags_fault t (at + 22)

-- n pairs from `at` on: each class is above the one before it, the first `least` or more
abbrev pub pairs_fault : List ℕ → ℕ → ℕ → ℕ → FirstFault
pairs_fault t n at least = walk (pair_fault t) (λ p. p + 24) (λ p. pair_class t p + 1) n at least

unfoldable pub cluster_fault : List ℕ → ℕ → FirstFault
cluster_fault t at =
    inside t at 4
    then rule (leb 1 (u32_at t at) && leb (u32_at t at) 128) BadCluster at
    then pairs_fault t (u32_at t at) (at + 4) 0
