use Rattle.std.proofs.Common.{arith, rules}
use Rattle.lookup_find.proofs.Laws.{looks-few}
use Rattle.table_find.proofs.value_by.Goals as goal

pub overflow_cast-result : goal.overflow_cast-result
overflow_cast-result c = omega (arith, c.find_by-looked.ensures.0, looks-few c.args.table.now c.in-Some.lookup.at c.args.glyph (search rules))
