-- `lookup_find::find_by` meets its contract.
use Rattle.lookup_find.proofs.Laws.{find-0, find-8}
use Rattle.lookup_find.proofs.find_by.Goals as goal

pub returns-in-0 : goal.returns-in-0
returns-in-0 c = find-0 c.requires _ c.in-0.is c.array_value.ensures

pub returns-in-8 : goal.returns-in-8
returns-in-8 c = find-8 c.requires _ c.in-8.is c.trimmed_value.ensures
