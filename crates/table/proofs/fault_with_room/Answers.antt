use Rattle.lookup_targets.proofs.Laws.{none-judged}
use Rattle.table.proofs.fault_with_room.Goals as goal

pub fault_by-requires : goal.fault_by-requires
fault_by-requires g c = none-judged _ _ _
