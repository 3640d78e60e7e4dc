-- `diff_table::size_all` meets its contract.
use Rattle.diff_table.proofs.Laws.{size_few, same_size}
use Rattle.std.proofs.Common.{arith, rules}
use Rattle.diff_table.proofs.size_all.Goals as goal

pub returns-then-eq : goal.returns-then-eq
returns-then-eq c = let a = c.args in (same_size a.one.now a.other.now a.glyphs (search rules), omega arith)

pub returns : goal.returns
returns c =
    let a = c.args in
    let e = c.put_all.ensures.1 in
    (omega (arith, e), omega (arith, e, size_few a.one.now a.other.now a.glyphs (search rules) c.requires.0))
