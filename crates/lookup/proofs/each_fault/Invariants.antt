-- The loop of `lookup::each_fault`: the units from the next on say what all of them say.
use Rattle.std.proofs.Common.{◌≡◌, ◌+◌, ◌*◌, ◌-◌}
use Rattle.lookup.specs.Units.{units_fault}
use Rattle.lookup.proofs.each_fault.Given as goal

abbrev pub invariant-loop-unit : goal.invariant-loop-unit
invariant-loop-unit l =
    units_fault l.table l.format l.count l.start l.from
    ≡ units_fault l.table l.format (l.count - l.unit) (l.start + l.size * l.unit) l.least
