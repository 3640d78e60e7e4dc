-- `verdict::is_below` meets its contract.
use borrow.Author.Rules.{rules}
use Rattle.verdict.proofs.Laws.{least_fits, is_below}
use Rattle.verdict.proofs.is_below.Goals as goal

pub overflow_sub-result : goal.overflow_sub-result
overflow_sub-result c = least_fits c.fixed-limit.result.0 c.args.bits (search rules) (search rules) c.fixed-limit.ensures c.factor-least.result.0 c.args.size (search rules) (search rules) c.factor-least.ensures

pub returns : goal.returns
returns c = is_below c.fixed-limit.result.0 c.args.bits (search rules) (search rules) c.fixed-limit.ensures c.factor-least.result.0 c.args.size (search rules) (search rules) c.factor-least.ensures c.args.growth.0 (search rules)
