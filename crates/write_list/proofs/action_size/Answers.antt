-- `write_list::action_size` meets its contract.
use Rattle.write_list.proofs.Laws.{action-bytes}
use native.Mathlib.Omega.{arith}
use Rattle.write_list.proofs.action_size.Goals as goal

pub returns : goal.returns
returns c =
    let e = action-bytes c.args.table.now c.args.at c.u16_at.result c.u16_at.ensures.0 in
    (omega (arith, e, c.content_size.ensures.0), omega (arith, c.content_size.ensures.1))
