-- `write_list::same_bytes` meets its contract.
use Rattle.write_list.proofs.Laws.{SameAfter}
use Rattle.write_list.proofs.same_bytes.Given as goal

abbrev pub invariant-loop-i : goal.invariant-loop-i
invariant-loop-i l = SameAfter l.one l.other l.first l.second l.count l.i
