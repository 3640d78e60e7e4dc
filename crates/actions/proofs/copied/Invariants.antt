-- `actions::copied` meets its contract.
use Rattle.std.proofs.Common.{◌≡◌, ◌-◌, ◌++◌, replicate}
use Rattle.actions.specs.Actions.{bytes_at}
use Rattle.actions.proofs.copied.Given as goal

abbrev pub invariant-loop-i : goal.invariant-loop-i
invariant-loop-i l = l.bytes ≡ bytes_at l.table l.first l.i ++ replicate (76 - l.i) 0
