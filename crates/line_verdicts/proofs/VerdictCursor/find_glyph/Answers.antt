use Rattle.std.proofs.Common.{refl, ◌∙◌, subst, arith, ◌+◌, ◌*◌, ◌<◌, List, length}
use Rattle.types.specs.declared.Verdict.{Verdict}
use Rattle.line_verdicts.proofs.Told.{told_at, told-inside, told-pass, told-begun, left-spent, hand-left, begun-serves}
use Rattle.line_verdicts.proofs.VerdictCursor.find_glyph.Goals as goal

pub returns-then-self-ne0 : goal.returns-then-self-ne0
returns-then-self-ne0 c = let p = c.requires in (refl, p.1, hand-left c.args.bits.now c.args.self.now p.0 p.1 c.if-self-ne0.true)

pub loop-next-init : goal.loop-next-init
loop-next-init c =
    let a = c.args in
    let s : 0 < length (told_at a.bits.now a.self.now.next) = subst (λ (vs : List Verdict). 0 < length vs) (left-spent a.bits.now a.self.now c.if-self-ne0.false) c.requires.2 in
    record { same = refl; some = s; inside = told-inside a.self.now.next a.bits.now s }

pub loop-next-preserved : goal.loop-next-preserved
loop-next-preserved c =
    let bits = c.args.bits.now in
    let l = c.loop-next in
    let e = told-pass bits l.next l.invariant.inside c.loop-next-test.true in
    let s : 0 < length (told_at bits (l.next + 1)) = subst (λ (vs : List Verdict). 0 < length vs) e l.invariant.some in
    record { same = l.invariant.same ∙ e; some = s; inside = told-inside (l.next + 1) bits s }

pub returns : goal.returns
returns c =
    let a = c.args in
    let bits = a.bits.now in
    let l = c.loop-next in
    let s = begun-serves bits l.next l.invariant.inside (omega (arith, c.type_inv.bits (2 * l.next))) in
    (left-spent bits a.self.now c.if-self-ne0.false ∙ l.invariant.same ∙ told-begun bits l.next l.invariant.inside, s, hand-left bits _ c.requires.0 s c.loop-next-test.false)
