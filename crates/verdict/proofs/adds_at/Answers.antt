-- `verdict::adds_at` meets its contract.
use borrow.Author.Rules.{rules}
use mathlib.Core.Bool.{true, false}
use Rattle.verdict.proofs.Laws.{adds-is}
use Rattle.verdict.proofs.adds_at.Goals as goal

pub returns-then-growth-gt0 : goal.returns-then-growth-gt0
returns-then-growth-gt0 c = adds-is c.args.growth.0 (search rules) true c.if-growth-gt0.true

pub returns-else-growth-gt0 : goal.returns-else-growth-gt0
returns-else-growth-gt0 c = adds-is c.args.growth.0 (search rules) false c.if-growth-gt0.false
