-- `verdict::is_above` meets its contract.
use borrow.Author.Rules.{rules}
use Rattle.verdict.proofs.Laws.{is-above}
use Rattle.verdict.proofs.is_above.Goals as goal

pub returns : goal.returns
returns c = is-above c.args.growth.0 c.fixed-limit.result.0 c.factor-most.result.0 c.args.bits c.args.size (search rules) (search rules) (search rules) c.fixed-limit.ensures c.factor-most.ensures
