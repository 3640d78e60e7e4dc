use Rattle.lookup_targets.proofs.Laws.{none_ahead}
use Rattle.lookup_targets.proofs.shared_fault.Goals as goal

pub targets_fault-requires-clause-true_notes : goal.targets_fault-requires-clause-true_notes
targets_fault-requires-clause-true_notes g c = (c.requires.true_notes, none_ahead _ _ _ _ _)
