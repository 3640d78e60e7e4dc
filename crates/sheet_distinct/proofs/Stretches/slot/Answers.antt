-- `sheet_distinct::Stretches::slot` meets its contract: told by the first factor. Assumes nothing.
use Rattle.std.proofs.Common.{◌∙◌}
use Rattle.sheet_distinct.proofs.SlotLaws.{slot-first}
use Rattle.sheet_distinct.proofs.Stretches.slot.Goals as goal

pub returns : goal.returns
returns c = (c.slot_told.ensures.0 ∙ slot-first _ _, c.slot_told.ensures.1)
