-- `actions::held_size` meets its contract.
use Rattle.std.proofs.Common.{arith}
use Rattle.actions.proofs.Copies.{size-listed, size-other}
use Rattle.actions.proofs.held_size.Goals as goal

pub returns-then-ty-ne0 : goal.returns-then-ty-ne0
returns-then-ty-ne0 c = (grind (arith, size-other), grind arith)

pub returns : goal.returns
returns c = (grind (arith, size-listed), grind arith)
