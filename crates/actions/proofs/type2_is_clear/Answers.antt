-- `actions::type2_is_clear` meets its contract.
use Rattle.std.proofs.Common.{arith}
use Rattle.actions.proofs.Clear.{no-added-clear, added-clear, type2-clear}
use Rattle.actions.proofs.Steps.{glyph-inside}
use borrow.Author.Tests.{ltb-true}
use Rattle.actions.proofs.type2_is_clear.Goals as goal

pub returns-then-added-eq-NO_GLYPH : goal.returns-then-added-eq-NO_GLYPH
returns-then-added-eq-NO_GLYPH c = λ e. grind (arith, glyph-inside, no-added-clear, type2-clear)

pub returns-else-added-eq-NO_GLYPH : goal.returns-else-added-eq-NO_GLYPH
returns-else-added-eq-NO_GLYPH c = λ e. grind (arith, glyph-inside, added-clear, type2-clear, ltb-true)
