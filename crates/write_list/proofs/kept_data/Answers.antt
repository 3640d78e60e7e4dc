-- `write_list::kept_data` meets its contract.
use Rattle.write_list.proofs.Laws.{kept-5, kept-other}
use native.Mathlib.Omega.{arith}
use Rattle.write_list.proofs.kept_data.Goals as goal

pub returns-then-ty-eq5 : goal.returns-then-ty-eq5
returns-then-ty-eq5 c = (kept-5 c.args.table.now c.args.at c.args.ty c.if-ty-eq5.true, omega arith, omega arith)

pub returns : goal.returns
returns c =
    let n = c.content_size.ensures in
    (kept-other c.args.table.now c.args.at c.args.ty _ c.if-ty-eq5.false n.0, omega arith, n.1)
