use Rattle.std.proofs.Common.{arith}
use Rattle.fields.proofs.Walk.{walk_steps}
use Rattle.actions.proofs.actions_fault.Goals as goal

pub returns-in_err-action_fault : goal.returns-in_err-action_fault
returns-in_err-action_fault c = grind (arith, walk_steps)

pub loop-preserved : goal.loop-preserved
loop-preserved c = grind (arith, walk_steps)
