-- `write_list::content_size` meets its contract.
use Rattle.write_list.proofs.Laws.{size-0, size-other}
use native.Mathlib.Omega.{arith}
use Rattle.write_list.proofs.content_size.Goals as goal

pub returns-then-ty-eq0 : goal.returns-then-ty-eq0
returns-then-ty-eq0 c = (size-0 c.args.table.now c.args.at c.args.ty c.u16_at.result c.if-ty-eq0.true c.u16_at.ensures.0, omega (arith, c.u16_at.ensures.1))

pub returns : goal.returns
returns c = (size-other c.args.table.now c.args.at c.args.ty c.data_size.result c.if-ty-eq0.false c.data_size.ensures.0, omega (arith, c.data_size.ensures.1))
