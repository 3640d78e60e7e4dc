-- `actions::glyphs_are_clear` meets its contract.
use Rattle.std.proofs.Common.{◌≡◌, ◌-◌, ◌≤◌, length}
use Rattle.actions.specs.Faults.{glyphs_fault}
use Rattle.actions.proofs.glyphs_are_clear.Given as goal

abbrev pub invariant-loop : goal.invariant-loop
invariant-loop l =
    (glyphs_fault l.table l.glyphs l.count l.first ≡ glyphs_fault l.table l.glyphs (l.count - l.counter) l.at) × (l.at ≤ length l.table)
