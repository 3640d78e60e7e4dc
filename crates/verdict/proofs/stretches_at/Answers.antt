-- `verdict::stretches_at` meets its contract.
use borrow.Author.Rules.{rules}
use Rattle.verdict.proofs.Laws.{stays, moves}
use Rattle.verdict.proofs.stretches_at.Goals as goal

pub returns-then-growth-eq0 : goal.returns-then-growth-eq0
returns-then-growth-eq0 c = stays c.args.growth.0 (search rules) c.if-growth-eq0.true

pub returns-else-growth-eq0 : goal.returns-else-growth-eq0
returns-else-growth-eq0 c = moves c.args.growth.0 (search rules) c.if-growth-eq0.false
