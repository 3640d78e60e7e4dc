-- `actions::clear_end` meets its contract.
use Rattle.std.proofs.Common.{arith}
use Rattle.actions.proofs.Clear.{action-clear}
use Rattle.actions.proofs.clear_end.Goals as goal

pub returns : goal.returns
returns c = (grind (arith, action-clear), grind arith, grind arith)
