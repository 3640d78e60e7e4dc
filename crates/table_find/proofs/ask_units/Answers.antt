use Rattle.std.proofs.Common.{arith, rules}
use Rattle.table_find.proofs.Laws.{units-few}
use Rattle.table_find.proofs.ask_units.Goals as goal

pub overflow_cast-result : goal.overflow_cast-result
overflow_cast-result c =
    let a = c.args in
    omega (arith, c.units_in-units.ensures a.table.now c.lookup_in.ensures.1, units-few a.table.now c.lookup_in.result (search rules))
