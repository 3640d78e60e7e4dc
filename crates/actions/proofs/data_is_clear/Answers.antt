-- `actions::data_is_clear` meets its contract.
use Rattle.std.proofs.Common.{arith}
use borrow.Author.Tests.{leb-true}
use Rattle.actions.proofs.Steps.{data-4, data-5}
use Rattle.actions.proofs.Clear.{type4-clear, type5-clear}
use Rattle.actions.proofs.data_is_clear.Goals as goal

pub returns-in-4 : goal.returns-in-4
returns-in-4 c = λ e. (grind arith, grind (arith, type4-clear, data-4, leb-true))

pub returns-in_default : goal.returns-in_default
returns-in_default c = λ e. (grind arith, grind (arith, type5-clear, data-5))
