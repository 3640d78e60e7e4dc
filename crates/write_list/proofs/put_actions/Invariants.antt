-- `write_list::put_actions` meets its contract.
use Prim.Native.Nat.{◌+◌, ◌-◌, ◌*◌, ◌≤◌, ◌<◌, ◌^◌}
use mathlib.Core.Path.{◌≡◌}
use lib.ListN.{length}
use lib.Seq.{sets}
use Rattle.encoding.specs.Codes.{many}
use Rattle.meaning.specs.Sheet.{action_code}
use Rattle.actions.specs.Actions.{actions_at}
use Rattle.write_list.proofs.put_actions.Given as goal

abbrev pub invariant-loop : goal.invariant-loop
invariant-loop l =
    (l.at < 2 ^ 33) × (l.end ≤ l.to + 2 ^ 19 * l.counter) × (length l.out ≡ length l.initial.out)
    × (sets l.out l.end (many action_code (actions_at l.table (l.count - l.counter) l.at)) ≡ sets l.initial.out l.to (many action_code (actions_at l.table l.count l.first)))
