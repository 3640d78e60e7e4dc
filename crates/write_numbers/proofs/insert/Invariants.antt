-- `write_numbers::insert` meets its contract.
use Prim.Native.Nat.{◌+◌, ◌≤◌}
use Rattle.write_numbers.proofs.Moved.{Moved}
use Rattle.write_numbers.proofs.insert.Given as goal

abbrev pub invariant-loop-i : goal.invariant-loop-i
invariant-loop-i l = Moved l.initial.others l.others l.i × (l.n + 1 ≤ l.i)
