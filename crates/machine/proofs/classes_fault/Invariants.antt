-- `machine::classes_fault` meets its contract.
use Rattle.std.proofs.Common.{◌≡◌, ◌+◌, ◌-◌}
use Rattle.machine.specs.Machine.{classes_fault}
use Rattle.machine.proofs.classes_fault.Given as goal

abbrev pub invariant-loop-past : goal.invariant-loop-past
invariant-loop-past l = classes_fault l.table l.here l.count l.first ≡ classes_fault l.table l.here (l.count - l.past) (l.first + l.past)
