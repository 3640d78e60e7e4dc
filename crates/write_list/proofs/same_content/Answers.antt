-- `write_list::same_content` meets its contract.
use Rattle.actions.specs.Actions.{content_at}
use Rattle.actions.proofs.Copies.{bytes-length}
use Rattle.encoding.specs.Tests.{Says}
use Rattle.write_list.proofs.Laws.{sizes-kept}
use borrow.Author.Tests.{ne_eqb}
use mathlib.Core.Bool.{Bool}
use mathlib.Core.Path.{◌≡◌, sym, ◌∙◌, subst}
use Rattle.write_list.proofs.same_content.Goals as goal

pub returns-else-a-b : goal.returns-else-a-b
returns-else-a-b c =
    let a = c.args in
    let x = c.kept_data-a in
    let y = c.kept_data-b in
    let m = bytes-length a.one.now x.result.at x.result.size in
    let n = bytes-length a.other.now y.result.at y.result.size in
    subst (λ (b : Bool). Says b (content_at a.one.now a.first a.ty ≡ content_at a.other.now a.second a.ty)) (sym (ne_eqb _ _ c.if-a-b.false))
    (λ e. c.if-a-b.false (sym m ∙ sizes-kept _ _ _ x.ensures.0 y.ensures.0 e ∙ n))
