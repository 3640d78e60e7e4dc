-- `write_list::same_list` meets its contract.
use Rattle.actions.specs.Actions.{list_at}
use Rattle.actions.proofs.Laws.{list_length}
use Rattle.encoding.specs.Tests.{Says}
use Rattle.encoding.proofs.DictionaryLaws.{says-iff, says_none}
use Rattle.write_list.proofs.Laws.{list-actions}
use borrow.Author.Tests.{ne_eqb}
use lib.ListN.{length}
use native.Mathlib.Omega.{arith}
use mathlib.Core.Bool.{Bool}
use mathlib.Core.Path.{◌≡◌, ap, sym, ◌∙◌, subst}
use Rattle.write_list.proofs.same_list.Goals as goal

pub returns-then-count-u32_at : goal.returns-then-count-u32_at
returns-then-count-u32_at c =
    let a = c.args in
    let n = c.u32_at-count in
    let p = list-actions a.one.now a.first n.result n.ensures.0 in
    let q = list-actions a.other.now a.second n.result (c.if-count-u32_at.true ∙ c.u32_at.ensures.0) in
    says-iff c.is_none.result (λ e. sym p ∙ e ∙ q) (λ e. p ∙ e ∙ sym q)
    (says_none c.actions_apart.result c.is_none.result c.is_none.ensures c.actions_apart.ensures (λ i w. w.2.differ))

pub returns-else-count-u32_at : goal.returns-else-count-u32_at
returns-else-count-u32_at c =
    let a = c.args in
    let t = a.one.now in
    let u = a.other.now in
    let m = c.u32_at-count in
    let n = c.u32_at in
    subst (λ (b : Bool). Says b (list_at t a.first ≡ list_at u a.second)) (sym (ne_eqb _ _ c.if-count-u32_at.false))
    (λ e. c.if-count-u32_at.false (omega (arith, m.ensures.0, n.ensures.0, list_length t a.first, list_length u a.second, ap length e)))
