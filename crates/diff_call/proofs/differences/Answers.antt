use Rattle.std.proofs.Common.{arith, rules}
use Rattle.diff_call.proofs.Laws.{all-stored}
use Rattle.diff_call.proofs.differences.Goals as goal

pub returns : goal.returns
returns c =
    let a = c.args in
    let s = c.size_all-size in
    all-stored a.one.now a.other.now a.count a.list.now (search rules) s.result s.ensures.0 c.put_all.new.list (omega arith) c.put_all.ensures.0
