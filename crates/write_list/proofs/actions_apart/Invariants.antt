-- `write_list::actions_apart` meets its contract.
use Prim.Native.Nat.{◌-◌, ◌<◌, ◌^◌}
use Rattle.encoding.specs.Dictionary.{Left}
use Rattle.actions.specs.Actions.{actions_at}
use Rattle.write_list.specs.Words.{action_words}
use Rattle.write_list.proofs.actions_apart.Given as goal

abbrev pub invariant-loop : goal.invariant-loop
invariant-loop l =
    (l.a < 2 ^ 33) × (l.b < 2 ^ 33)
    × Left action_words (actions_at l.one l.count l.first) (actions_at l.other l.count l.second)
    (actions_at l.one (l.count - l.counter) l.a) (actions_at l.other (l.count - l.counter) l.b)
