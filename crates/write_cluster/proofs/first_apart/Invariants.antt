-- `write_cluster::first_apart` meets its contract.
use Prim.Native.Nat.{◌+◌, ◌-◌, ◌*◌}
use Rattle.encoding.specs.Dictionary.{Left}
use Rattle.cluster.specs.Pairs.{pairs_at}
use Rattle.write_cluster.specs.Words.{pair_words}
use Rattle.write_cluster.proofs.first_apart.Given as goal

abbrev pub invariant-loop-i : goal.invariant-loop-i
invariant-loop-i l =
    Left pair_words (pairs_at l.one l.count l.first) (pairs_at l.other l.count l.second)
    (pairs_at l.one (l.count - l.i) (l.first + 24 * l.i)) (pairs_at l.other (l.count - l.i) (l.second + 24 * l.i))
