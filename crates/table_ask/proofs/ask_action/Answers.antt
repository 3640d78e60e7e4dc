use Rattle.std.proofs.Common.{sym}
use Rattle.table_ask.proofs.Laws.{answered}
use Rattle.table_ask.proofs.ask_action.Goals as goal

pub returns : goal.returns
returns c = answered _ _ _ (sym c.in_ok-table_fault.ensures) (λ i. (c.type_inv.table i).fits) _ _ c.action_of.result c.action_of.ensures
