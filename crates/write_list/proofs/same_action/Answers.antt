-- `write_list::same_action` meets its contract.
use mathlib.Core.Bool.{true}
use mathlib.Core.Path.{refl, ◌∙◌}
use Rattle.write_list.proofs.Laws.{heads-apart, heads-same, no-data}
use Rattle.write_list.proofs.same_action.Goals as goal

pub returns-then-head-u32_at : goal.returns-then-head-u32_at
returns-then-head-u32_at c =
    let a = c.args in
    heads-apart a.one.now a.other.now (λ i. (c.type_inv.one i).fits) (λ i. (c.type_inv.other i).fits) true a.first a.second c.u32_at-head.result _ c.u32_at-head.ensures.0 refl c.u32_at.result c.u32_at.ensures.0 c.if-head-u32_at.true

pub returns-then-ty-eq3 : goal.returns-then-ty-eq3
returns-then-ty-eq3 c =
    let a = c.args in
    heads-same a.one.now a.other.now (λ i. (c.type_inv.one i).fits) (λ i. (c.type_inv.other i).fits) true a.first a.second c.u32_at-head.result _ c.u32_at-head.ensures.0 refl (c.if-head-u32_at.false ∙ c.u32_at.ensures.0) (no-data a.one.now a.other.now a.first a.second _ c.if-ty-eq3.true)

pub returns : goal.returns
returns c =
    let a = c.args in
    heads-same a.one.now a.other.now (λ i. (c.type_inv.one i).fits) (λ i. (c.type_inv.other i).fits) c.same_content.result a.first a.second c.u32_at-head.result _ c.u32_at-head.ensures.0 refl (c.if-head-u32_at.false ∙ c.u32_at.ensures.0) c.same_content.ensures
