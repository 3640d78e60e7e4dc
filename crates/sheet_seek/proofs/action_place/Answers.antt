-- `sheet_seek::action_place` meets its contract: each step of the walk passes one action. Assumes nothing.
use Rattle.std.proofs.Common.{arith, rules}
use Rattle.meaning.specs.Wide.{WideAction}
use Rattle.meaning.specs.Sheet.{action_code}
use Rattle.sheet_seek.proofs.PassLaws.{walked}
use Rattle.sheet_seek.proofs.action_place.Goals as goal

pub returns : goal.returns
returns c =
    let a = c.args in
    walked action_code WideAction a.bytes.now (λ i. omega (arith, c.type_inv.bytes i)) a.at _ (λ p q h. search rules) (λ x. omega arith)
    a.number c.reach.result c.reach.ensures
