-- `write_cluster::put_pairs` meets its contract.
use Prim.Native.Nat.{◌+◌, ◌-◌, ◌*◌}
use mathlib.Core.Path.{◌≡◌}
use lib.ListN.{length}
use lib.Seq.{sets}
use Rattle.encoding.specs.Codes.{many}
use Rattle.meaning.specs.Sheet.{pair_code}
use Rattle.cluster.specs.Pairs.{pairs_at}
use Rattle.write_cluster.proofs.put_pairs.Given as goal

abbrev pub invariant-loop-i : goal.invariant-loop-i
invariant-loop-i l =
    (length l.out ≡ length l.initial.out)
    × (sets l.out (l.to + 24 * l.i) (many pair_code (pairs_at l.table (l.count - l.i) (l.first + 24 * l.i))) ≡ sets l.initial.out l.to (many pair_code (pairs_at l.table l.count l.first)))
