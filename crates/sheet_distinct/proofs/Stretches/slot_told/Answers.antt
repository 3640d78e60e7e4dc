-- `sheet_distinct::Stretches::slot_told` meets its contract: the slot is the upper part of a product below `slots` times 2 ^ 32. Assumes nothing.
use Rattle.std.proofs.Common.{arith}
use Rattle.sheet_distinct.proofs.SlotLaws.{slot-is, few-slots}
use Rattle.sheet_distinct.proofs.Stretches.slot_told.Goals as goal

pub returns : goal.returns
returns c =
    let a = c.args in (
      slot-is a.factor a.slots c.mix.result c.get-stretch.result.now _ c.get-stretch.ensures c.mix.ensures,
      omega (arith, few-slots c.mix.result a.slots (omega arith) (omega arith)),
    )
