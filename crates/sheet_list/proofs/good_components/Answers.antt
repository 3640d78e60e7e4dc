-- `sheet_list::good_components` meets its contract: the count is judged, then each glyph. Assumes nothing.
use Rattle.std.proofs.Common.{ℕ, ◌+◌, ◌*◌, ◌<◌, refl, arith, rules}
use Rattle.std.proofs.lemmas.Iterator.{cases_from_all, YieldsList-from_range}
use Rattle.fields.specs.Field.{u16_at}
use Rattle.sheet_sections.proofs.RangeLaws.{says-all, says-same}
use Rattle.sheet_list.proofs.ContentLaws.{components-are}
use Rattle.sheet_list.proofs.good_components.Goals as goal

pub returns-then-content-count : goal.returns-then-content-count
returns-then-content-count c =
    let a = c.args in
    let d = a.content.now in
    let count = c.u16_at-count.result in
    let Below : ℕ → Type 0 = λ (k : ℕ). u16_at d (12 + 2 * k) < a.glyphs in
    says-same c.all.result _ _
    (components-are a.glyphs d count c.u16_at-count.ensures.0 (omega arith) (omega arith) c.if-content-count.true)
    (λ o k i. o.3 k (omega (arith, i)))
    (says-all Below count c.all.result
    (cases_from_all _ _ _ Below (λ k. Below k → ⊥) c.all.ensures.ran
    (YieldsList-from_range 0 count count refl (omega arith)) (λ x q k. search rules) (λ x q k. search rules)))
