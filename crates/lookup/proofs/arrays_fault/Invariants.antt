-- The loop of `lookup::arrays_fault`: the arrays from the unit on say what all of them say.
use Rattle.std.proofs.Common.{◌≡◌, ◌+◌, ◌*◌, ◌-◌}
use Rattle.lookup.specs.Units.{arrays_fault}
use Rattle.lookup.proofs.arrays_fault.Given as goal

abbrev pub invariant-loop-unit : goal.invariant-loop-unit
invariant-loop-unit l =
    arrays_fault l.table l.glyphs l.at l.count l.start ≡ arrays_fault l.table l.glyphs l.at (l.count - l.unit) (l.start + 6 * l.unit)
