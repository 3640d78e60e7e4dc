-- `write_cluster::cluster_hash` meets its contract.
use Rattle.write_cluster.specs.Hash.{pairs_hash, cluster_hash}
use Rattle.cluster.specs.Pairs.{pairs_at, cluster_at}
use mathlib.Core.Path.{◌≡◌}
use Prim.Native.Nat.{◌+◌, ◌-◌, ◌*◌, ◌<◌, min}
use Rattle.write_cluster.proofs.cluster_hash.Given as goal

abbrev pub invariant-loop-i : goal.invariant-loop-i
invariant-loop-i l =
    (l.hash < 4294967296)
    × (pairs_hash l.hash (pairs_at l.table (min l.count 4 - l.i) (l.first + 24 * l.i)) ≡ cluster_hash (cluster_at l.table l.at))
