-- `write_list::next_place` meets its contract.
use Rattle.write_list.proofs.Laws.{near}
use native.Mathlib.Omega.{arith}
use Rattle.write_list.proofs.next_place.Goals as goal

pub returns : goal.returns
returns c =
    let n = c.u32_at in
    (omega arith, near c.args.table.now c.args.at n.result c.requires.0 c.requires.1 n.ensures.0 n.ensures.1)
