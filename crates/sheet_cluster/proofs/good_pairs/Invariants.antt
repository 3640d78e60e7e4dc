-- `sheet_cluster::good_pairs` meets its contract. The loop's invariant: the pairs that are left rise from the last class on exactly when all do. Assumes nothing.
use Rattle.std.proofs.Common.{◌+◌, ◌-◌, ◌*◌}
use Rattle.encoding.specs.Codes.{items_at}
use Rattle.sheet_cluster.specs.Clusters.{pair_at, GoodPairs}
use Rattle.sheet_cluster.proofs.good_pairs.Given as goal

abbrev pub invariant-loop-i : goal.invariant-loop-i
invariant-loop-i l =
    (GoodPairs l.least (items_at pair_at 24 l.bytes (l.at + 24 * l.i) (l.count - l.i)) → GoodPairs 0 (items_at pair_at 24 l.bytes l.at l.count))
    × (GoodPairs 0 (items_at pair_at 24 l.bytes l.at l.count) → GoodPairs l.least (items_at pair_at 24 l.bytes (l.at + 24 * l.i) (l.count - l.i)))
