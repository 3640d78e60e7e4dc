-- `write_numbers::Others::earlier_count` meets its contract.
use Prim.Native.Nat.{◌-◌}
use Rattle.write_item.specs.Items.{item_at}
use Rattle.write_numbers.proofs.Halves.{Halves}
use Rattle.write_numbers.proofs.Others.earlier_count.Given as goal

abbrev pub invariant-loop-low : goal.invariant-loop-low
invariant-loop-low l = Halves l.self.kind l.self.table.now l.self.firsts.now l.self.list.now (item_at l.self.kind l.self.table.now l.place) l.low l.high

abbrev pub decreases-loop-low : goal.decreases-loop-low
decreases-loop-low l = l.high - l.low
