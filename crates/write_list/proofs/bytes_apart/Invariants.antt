-- `write_list::bytes_apart` meets its contract.
use Prim.Native.Nat.{◌+◌, ◌-◌}
use Rattle.encoding.specs.Dictionary.{Left}
use Rattle.encoding.specs.Sections.{byte}
use Rattle.actions.specs.Actions.{bytes_at}
use Rattle.write_list.proofs.bytes_apart.Given as goal

abbrev pub invariant-loop-i : goal.invariant-loop-i
invariant-loop-i l =
    Left byte (bytes_at l.one l.first l.count) (bytes_at l.other l.second l.count)
    (bytes_at l.one (l.first + l.i) (l.count - l.i)) (bytes_at l.other (l.second + l.i) (l.count - l.i))
