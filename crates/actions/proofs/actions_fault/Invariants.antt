-- `actions::actions_fault` meets its contract.
use Rattle.std.proofs.Common.{◌≡◌, ◌-◌}
use Rattle.actions.specs.Faults.{actions_fault}
use Rattle.actions.proofs.actions_fault.Given as goal

abbrev pub invariant-loop : goal.invariant-loop
invariant-loop l = actions_fault l.table l.glyphs l.count l.first ≡ actions_fault l.table l.glyphs (l.count - l.counter) l.at
