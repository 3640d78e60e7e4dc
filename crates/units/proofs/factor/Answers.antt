-- `units::factor` meets its contract.
use Rattle.units.proofs.Laws.{factor-below, factor-above, factor-fits, factor-is}
use borrow.Author.Rules.{rules}
use Rattle.units.proofs.factor.Goals as goal

pub returns-then-ems-ltminus2147483648 : goal.returns-then-ems-ltminus2147483648
returns-then-ems-ltminus2147483648 c = factor-below c.args.limit.0 c.args.size (search rules) (search rules) c.if-ems-ltminus2147483648.true

pub returns-then-ems-gt2147483648 : goal.returns-then-ems-gt2147483648
returns-then-ems-gt2147483648 c = factor-above c.args.limit.0 c.args.size (search rules) (search rules) c.if-ems-ltminus2147483648.false c.if-ems-gt2147483648.true

pub overflow_mul-result : goal.overflow_mul-result
overflow_mul-result c = factor-fits c.args.limit.0 c.args.size (search rules) (search rules) c.if-ems-ltminus2147483648.false c.if-ems-gt2147483648.false

pub returns : goal.returns
returns c = factor-is c.args.limit.0 c.args.size (search rules) (search rules) c.if-ems-ltminus2147483648.false c.if-ems-gt2147483648.false
