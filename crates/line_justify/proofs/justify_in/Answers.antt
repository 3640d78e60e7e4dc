-- `line_justify::justify_in` meets its contract.
use Rattle.std.proofs.Common.{◌≡◌, Ok, Err, refl, sym, ap, subst, ◌∙◌, arith, length}
use Rattle.std.proofs.lemmas.Grind.{common_steps}
use Rattle.line_rule.specs.Line.{verdicts_of}
use Rattle.line_rule.specs.Shape.{line_in}
use Rattle.line_verdicts.specs.Bits.{told}
use Rattle.line_call.specs.Justified.{side_for}
use Rattle.line_call.specs.Settle.{settlement_of, stored_by, Tells}
use Rattle.line_justify.specs.Outcome.{outcome_of}
use Rattle.line_justify.proofs.Laws.{stored-none}
use Rattle.line_justify.proofs.Settled.{kept-room, settled-storable, settled-outcome}
use Rattle.line_justify.proofs.justify_in.Goals as goal

pub returns-in_err-justified-clause-outcome : goal.returns-in_err-justified-clause-outcome
returns-in_err-justified-clause-outcome c =
    let a = c.args in
    let b = a.lent.now in
    let l = line_in a.line in
    let r = c.settle in
    let s = r.new.lent in
    let o = r.ensures.settled in
    let q = c.in_err-justified.was in
    let x = c.in_err-justified.field-0.0 in
    let back : c.from_residual.result ≡ Err x = grind (arith, common_steps) in
    ap (λ y. outcome_of y s a.verdicts.now) back
    ∙ settled-outcome a.table.now a.count l b.classes.now b.before.now b.after.now a.verdicts.now
    (Err x) s.classes.now s.before.now s.after.now r.new.work (ap (λ y. settlement_of y s) (sym q) ∙ o.0 a.verdicts.now refl)
    (subst (λ y. Tells (stored_by y) (verdicts_of (side_for a.table.now a.count l) l) r.new.work) q o.1)
    a.verdicts.now (sym (stored-none (told r.new.work) a.verdicts.now))

pub fill-requires : goal.fill-requires
fill-requires c =
    let a = c.args in
    let b = a.lent.now in
    let l = line_in a.line in
    let r = c.settle in
    let s = r.new.lent in
    let o = r.ensures.settled in
    let q = c.in_ok-justified.was in
    let j = c.in_ok-justified.justified in
    settled-storable a.table.now a.count l b.classes.now b.before.now b.after.now a.verdicts.now
    (Ok j) s.classes.now s.before.now s.after.now r.new.work (ap (λ x. settlement_of x s) (sym q) ∙ o.0 a.verdicts.now refl)
    (subst (λ x. Tells (stored_by x) (verdicts_of (side_for a.table.now a.count l) l) r.new.work) q o.1)
    (kept-room (length a.line.glyphs.now) a.work.now r.new.work c.requires r.auto.work)

pub returns-clause-outcome : goal.returns-clause-outcome
returns-clause-outcome c =
    let a = c.args in
    let b = a.lent.now in
    let l = line_in a.line in
    let r = c.settle in
    let s = r.new.lent in
    let o = r.ensures.settled in
    let q = c.in_ok-justified.was in
    let j = c.in_ok-justified.justified in
    settled-outcome a.table.now a.count l b.classes.now b.before.now b.after.now a.verdicts.now
    (Ok j) s.classes.now s.before.now s.after.now r.new.work (ap (λ x. settlement_of x s) (sym q) ∙ o.0 a.verdicts.now refl)
    (subst (λ x. Tells (stored_by x) (verdicts_of (side_for a.table.now a.count l) l) r.new.work) q o.1)
    c.fill.new.list c.fill.ensures
