-- The loop of `lookup::units_fault`: the units from the next on say what all of them say.
use Rattle.std.proofs.Common.{◌≡◌, ◌+◌, ◌*◌, ◌-◌}
use Rattle.lookup.specs.Units.{units_fault}
use Rattle.lookup.proofs.units_fault.Given as goal

abbrev pub invariant-loop-unit : goal.invariant-loop-unit
invariant-loop-unit l =
    (units_fault l.table l.format l.count l.start 0 ≡ units_fault l.table l.format (l.count - l.unit) l.p l.least)
    × (l.p ≡ l.start + l.size * l.unit)
