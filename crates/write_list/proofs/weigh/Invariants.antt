-- `write_list::weigh` meets its contract.
use Prim.Native.Nat.{◌+◌, ◌-◌, ◌*◌, ◌≤◌, ◌^◌}
use mathlib.Core.Path.{◌≡◌}
use Rattle.actions.specs.Actions.{bytes_at}
use Rattle.write_list.specs.Hash.{weight}
use Rattle.write_list.proofs.weigh.Given as goal

abbrev pub invariant-loop-i : goal.invariant-loop-i
invariant-loop-i l =
    (l.sum ≤ 256 * l.i) × (l.total ≤ 2 ^ 26 * l.i)
    × (weight l.sum l.total (bytes_at l.table (l.first + l.i) (l.count - l.i)) ≡ weight 0 0 (bytes_at l.table l.first l.count))
