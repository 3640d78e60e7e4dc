-- `actions::content_at` meets its contract.
use Rattle.std.proofs.Common.{arith}
use Rattle.actions.proofs.Copies.{content-plain, content-five}
use Rattle.actions.proofs.content_at.Goals as goal

pub returns-then-ty-ne5 : goal.returns-then-ty-ne5
returns-then-ty-ne5 c = grind (arith, content-plain)

pub returns : goal.returns
returns c = grind (arith, content-five)
