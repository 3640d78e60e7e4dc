-- The loop of `cluster::record_from`: none of the pairs before has the class.
use Rattle.std.proofs.Common.{◌≡◌, ◌+◌, ◌*◌, ◌-◌}
use Rattle.cluster.specs.Pairs.{pairs_at}
use Rattle.meaning.specs.Ask.{record_of}
use Rattle.cluster.proofs.record_from.Given as goal

abbrev pub invariant-loop-pair : goal.invariant-loop-pair
invariant-loop-pair l =
    record_of l.class (pairs_at l.table l.count l.first) ≡ record_of l.class (pairs_at l.table (l.count - l.pair) (l.first + 24 * l.pair))
