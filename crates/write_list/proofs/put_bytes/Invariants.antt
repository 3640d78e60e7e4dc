-- `write_list::put_bytes` meets its contract.
use Prim.Native.Nat.{◌+◌, ◌-◌}
use mathlib.Core.Path.{◌≡◌}
use lib.ListN.{length}
use lib.Seq.{sets}
use Rattle.actions.specs.Actions.{bytes_at}
use Rattle.write_list.proofs.put_bytes.Given as goal

abbrev pub invariant-loop-i : goal.invariant-loop-i
invariant-loop-i l =
    (length l.out ≡ length l.initial.out)
    × (sets l.out (l.to + l.i) (bytes_at l.table (l.first + l.i) (l.count - l.i)) ≡ sets l.initial.out l.to (bytes_at l.table l.first l.count))
