-- `share::Running::next_share` meets its contract.
use Rattle.share.proofs.Runs.{stepped}
use Rattle.share.proofs.Running.next_share.Goals as goal

pub returns : goal.returns
returns c = stepped _ _ _ c.carry_on-next.ensures
