-- `actions::glyph_is_clear` meets its contract.
use Rattle.std.proofs.Common.{arith}
use borrow.Author.Tests.{ltb-true}
use Rattle.actions.proofs.Clear.{glyph-clear}
use Rattle.actions.proofs.glyph_is_clear.Goals as goal

pub returns : goal.returns
returns c = λ e. grind (arith, glyph-clear, ltb-true)
