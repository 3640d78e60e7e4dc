-- The loop of `cluster::pairs_fault`: the pairs from the next on say what all of them say, and it begins inside the table or where the first did.
use Rattle.std.proofs.Common.{◌≡◌, ◌+◌, ◌*◌, ◌-◌, ◌≤◌, length, max}
use Rattle.cluster.specs.Faults.{pairs_fault}
use Rattle.cluster.proofs.pairs_fault.Given as goal

abbrev pub invariant-loop-pair : goal.invariant-loop-pair
invariant-loop-pair l =
    record {
      same : pairs_fault l.table l.count l.first 0 ≡ pairs_fault l.table (l.count - l.pair) (l.first + 24 * l.pair) l.least;
      near : l.first + 24 * l.pair ≤ max l.first (length l.table);
    }
