-- The loop of `cluster::pairs_are_clear`: the pairs from the next on say what all of them say, and it begins inside the table.
use Rattle.std.proofs.Common.{◌≡◌, ◌+◌, ◌*◌, ◌-◌, ◌≤◌, length}
use Rattle.cluster.specs.Faults.{pairs_fault}
use Rattle.cluster.proofs.pairs_are_clear.Given as goal

abbrev pub invariant-loop-pair : goal.invariant-loop-pair
invariant-loop-pair l =
    record {
      same : pairs_fault l.table l.count l.first 0 ≡ pairs_fault l.table (l.count - l.pair) (l.first + 24 * l.pair) l.least;
      inside : l.first + 24 * l.pair ≤ length l.table;
    }
