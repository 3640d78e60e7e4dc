-- `actions::place_after` meets its contract.
use Rattle.std.proofs.Common.{◌≡◌, ◌+◌, ◌-◌, ◌*◌, ◌^◌, ◌<◌}
use Rattle.actions.specs.Actions.{place_after}
use Rattle.actions.proofs.place_after.Given as goal

abbrev pub invariant-loop : goal.invariant-loop
invariant-loop l =
    (place_after l.table l.count l.first ≡ place_after l.table (l.count - l.counter) l.at) × (l.at + 2 ^ 32 * (l.count - l.counter) < 2 ^ 50)
