-- `write_list::list_size` meets its contract.
use Prim.Native.Nat.{◌+◌, ◌-◌, ◌*◌, ◌≤◌, ◌<◌, ◌^◌}
use mathlib.Core.Path.{◌≡◌}
use lib.ListN.{length}
use Rattle.encoding.specs.Codes.{many, counted}
use Rattle.meaning.specs.Sheet.{action_code}
use Rattle.actions.specs.Actions.{actions_at, list_at}
use Rattle.write_list.proofs.list_size.Given as goal

abbrev pub invariant-loop : goal.invariant-loop
invariant-loop l =
    (l.at < 2 ^ 33) × (l.size ≤ 4 + 2 ^ 19 * l.counter)
    × (l.size + length (many action_code (actions_at l.table (l.count - l.counter) l.at)) ≡ length (counted action_code (list_at l.table l.place)))
