-- `diff_glyphs::compare_lists` meets its contract.
use Rattle.diff_glyphs.proofs.Laws.{lists-same, lists-second, lists-first, lists-changed}
use Rattle.actions.proofs.Laws.{list_length}
use Rattle.actions.specs.Actions.{list_at}
use Rattle.encoding.specs.Tests.{Says}
use mathlib.Core.Path.{◌≡◌, sym, ◌∙◌, subst}
use mathlib.Core.Bool.{Bool}
use Rattle.diff_glyphs.proofs.compare_lists.Goals as goal

pub returns-then-same_list : goal.returns-then-same_list
returns-then-same_list c =
    let a = c.args in
    let x = list_at a.one.now a.places.first in
    let y = list_at a.other.now a.places.second in
    lists-same x y (subst (λ (b : Bool). Says b (x ≡ y)) c.if-same_list.true c.same_list.ensures)

pub returns-then-u32_at-eq0 : goal.returns-then-u32_at-eq0
returns-then-u32_at-eq0 c =
    let a = c.args in
    let x = list_at a.one.now a.places.first in
    let y = list_at a.other.now a.places.second in
    lists-second x y (subst (λ (b : Bool). Says b (x ≡ y)) c.if-same_list.false c.same_list.ensures) (list_length a.one.now a.places.first ∙ sym c.u32_at.ensures.0 ∙ c.if-u32_at-eq0.true)

pub returns-then-u32_at-eq0-2 : goal.returns-then-u32_at-eq0-2
returns-then-u32_at-eq0-2 c =
    let a = c.args in
    let x = list_at a.one.now a.places.first in
    let y = list_at a.other.now a.places.second in
    lists-first x y (λ e. c.if-u32_at-eq0.false (c.u32_at.ensures.0 ∙ sym (list_length a.one.now a.places.first) ∙ e)) (list_length a.other.now a.places.second ∙ sym c.u32_at-2.ensures.0 ∙ c.if-u32_at-eq0-2.true)

pub returns : goal.returns
returns c =
    let a = c.args in
    let x = list_at a.one.now a.places.first in
    let y = list_at a.other.now a.places.second in
    lists-changed x y (subst (λ (b : Bool). Says b (x ≡ y)) c.if-same_list.false c.same_list.ensures)
    (λ e. c.if-u32_at-eq0.false (c.u32_at.ensures.0 ∙ sym (list_length a.one.now a.places.first) ∙ e))
    (λ e. c.if-u32_at-eq0-2.false (c.u32_at-2.ensures.0 ∙ sym (list_length a.other.now a.places.second) ∙ e))
