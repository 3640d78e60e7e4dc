use Rattle.std.proofs.Common.{arith}
use Rattle.lookup_targets.proofs.Laws.{each_turn, each_over}
use Rattle.lookup_targets.proofs.note_each.Goals as goal

pub loop-value-preserved : goal.loop-value-preserved
loop-value-preserved c = grind (arith, each_turn)

pub returns : goal.returns
returns c = grind (arith, each_over)
