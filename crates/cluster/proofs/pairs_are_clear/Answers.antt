-- `cluster::pairs_are_clear` meets its contract.
use Rattle.std.proofs.Common.{arith}
use Rattle.fields.proofs.Walk.{walk_steps}
use Rattle.cluster.proofs.pairs_are_clear.Goals as goal

pub loop-pair-preserved : goal.loop-pair-preserved
loop-pair-preserved c = record {
  same = grind (arith, walk_steps);
  inside = omega (arith, c.in-Some.ensures.inside);
}
