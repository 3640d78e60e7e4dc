-- `cluster::cluster_fault` meets its contract.
use Rattle.std.proofs.Common.{arith}
use Rattle.fields.proofs.Laws.{inside-ok}
use Rattle.cluster.proofs.cluster_fault.Goals as goal

pub overflow_add-at : goal.overflow_add-at
overflow_add-at c = omega (arith, inside-ok _ _ _ c.in_ok-in_table.ensures)

pub pairs_are_clear-requires : goal.pairs_are_clear-requires
pairs_are_clear-requires c = inside-ok _ _ _ c.in_ok-in_table.ensures

pub overflow_add-at-2 : goal.overflow_add-at-2
overflow_add-at-2 c = omega (arith, inside-ok _ _ _ c.in_ok-in_table.ensures)
