-- `sheet_cells::in_order` meets its contract. The loop's invariant: the numbers that are left come in order after those that were used exactly when all of them do. Assumes nothing.
use Rattle.std.proofs.Common.{◌≤◌, drop}
use Rattle.encoding.specs.Distinct.{InOrder}
use Rattle.sheet_cells.proofs.in_order.Given as goal

abbrev pub invariant-loop-number : goal.invariant-loop-number
invariant-loop-number l =
    (l.used ≤ l.number-index)
    × (InOrder l.count l.used (drop l.number-index l.numbers) → InOrder l.count 0 l.numbers)
    × (InOrder l.count 0 l.numbers → InOrder l.count l.used (drop l.number-index l.numbers))
