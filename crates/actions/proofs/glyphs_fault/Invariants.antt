-- `actions::glyphs_fault` meets its contract.
use Rattle.std.proofs.Common.{◌≡◌, ◌-◌}
use Rattle.actions.specs.Faults.{glyphs_fault}
use Rattle.actions.proofs.glyphs_fault.Given as goal

abbrev pub invariant-loop : goal.invariant-loop
invariant-loop l = glyphs_fault l.table l.glyphs l.count l.first ≡ glyphs_fault l.table l.glyphs (l.count - l.counter) l.at
