-- `actions::type0_is_clear` meets its contract.
use Rattle.std.proofs.Common.{arith}
use Rattle.actions.proofs.Clear.{type0-clear}
use Rattle.actions.proofs.type0_is_clear.Goals as goal

pub returns : goal.returns
returns c = λ e. grind (arith, type0-clear)
