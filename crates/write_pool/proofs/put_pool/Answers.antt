-- `write_pool::put_pool` meets its contract.
use Rattle.write_pool.proofs.Laws.{absent-placed}
use Rattle.write_pool.proofs.put_pool.Goals as goal

pub returns-in_default : goal.returns-in_default
returns-in_default c =
    let a = c.args in
    absent-placed a.kind a.table.now a.glyphs a.source a.out.now c.put_none.new.out a.to c.in_default.is c.put_none.ensures
