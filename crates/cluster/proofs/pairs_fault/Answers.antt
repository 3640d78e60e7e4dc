-- `cluster::pairs_fault` meets its contract.
use Rattle.std.proofs.Common.{arith}
use Rattle.fields.proofs.Walk.{walk_steps}
use Rattle.cluster.proofs.pairs_fault.Goals as goal

pub returns-in_err-pair_fault : goal.returns-in_err-pair_fault
returns-in_err-pair_fault c = grind (arith, walk_steps)

pub loop-pair-preserved : goal.loop-pair-preserved
loop-pair-preserved c = record {
  same = grind (arith, walk_steps);
  near = omega (arith, c.in_ok-pair_fault.ensures.inside);
}
