-- The table from each of its parts on, as `full_table` puts it together.
use Prim.Native.Nat.{ℕ}
use mathlib.Core.List.{List, ◌++◌}
use Rattle.table_limits.specs.Full.{zeros, full_cluster, full_list, wide_machine, tall_machine, lookup_of, offsets}

abbrev pub from_list : List ℕ
from_list = full_list ++ zeros 27179

abbrev pub from-actions : List ℕ
from-actions = lookup_of 20 ++ from_list

abbrev pub from-tall : List ℕ
from-tall = zeros 8 ++ (tall_machine ++ from-actions)

abbrev pub from-wide : List ℕ
from-wide = zeros 8 ++ (wide_machine ++ from-tall)

abbrev pub from-cluster : List ℕ
from-cluster = full_cluster ++ from-wide

abbrev pub from-vertical : List ℕ
from-vertical = offsets 3673 ++ (lookup_of 0 ++ from-cluster)

abbrev pub from-horizontal : List ℕ
from-horizontal = offsets 3138 ++ (lookup_of 0 ++ from-vertical)
