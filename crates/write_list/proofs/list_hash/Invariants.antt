-- `write_list::list_hash` meets its contract.
use Prim.Native.Nat.{◌-◌, ◌<◌, ◌^◌}
use mathlib.Core.Path.{◌≡◌}
use Rattle.actions.specs.Actions.{actions_at, list_at}
use Rattle.write_list.specs.Hash.{actions_hash, list_hash}
use Rattle.write_list.proofs.list_hash.Given as goal

abbrev pub invariant-loop : goal.invariant-loop
invariant-loop l =
    (l.at < 2 ^ 33) × (l.hash < 4294967296) × (actions_hash l.hash (actions_at l.table (l.count - l.counter) l.at) ≡ list_hash (list_at l.table l.place))
