-- `cluster::flags_fault` meets its contract.
use Rattle.fields.proofs.Laws.{inside-ok, on_ok_always}
use Rattle.cluster.proofs.flags_fault.Goals as goal

pub returns-clause-inside : goal.returns-clause-inside
returns-clause-inside c = on_ok_always _ (inside-ok _ _ _ c.in_ok-in_table.ensures)
