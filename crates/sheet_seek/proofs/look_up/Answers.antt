use Rattle.std.proofs.Common.{◌+◌, ◌-◌, ◌*◌, ◌∙◌, sym, ap, Some, arith}
use Rattle.sheet_seek.proofs.LookUpLaws.{look_stop, look-here, look-next, look-end}
use Rattle.sheet_sections.specs.RunSection.{run_at}
use Rattle.sheet_sections.proofs.SectionLaws.{items-same}
use Rattle.sheet_seek.specs.LookUp.{value_at}
use Rattle.sheet_seek.proofs.look_up.Goals as goal

pub loop-i-init : goal.loop-i-init
loop-i-init c =
    let a = c.args in
    ap (value_at a.glyph) (sym (items-same run_at 6 a.bytes.now a.at (a.at + 6 * 0) a.count (a.count - 0) (omega arith) (omega arith)))

pub returns-then-glyph-u16_at : goal.returns-then-glyph-u16_at
returns-then-glyph-u16_at c =
    let a = c.args in
    let l = c.loop-i in
    sym (l.invariant ∙ look_stop a.bytes.now a.glyph (a.at + 6 * l.i) (a.at + 6 * (l.i + 1)) (a.count - l.i) (a.count - (l.i + 1)) (omega arith) (omega arith)
    (omega (arith, c.u16_at.ensures.0)))

pub returns-then-glyph-u16_at-2 : goal.returns-then-glyph-u16_at-2
returns-then-glyph-u16_at-2 c =
    let a = c.args in
    let l = c.loop-i in
    ap Some c.u16_at-then-glyph-u16_at-2.ensures.0
    ∙ sym (l.invariant ∙ look-here a.bytes.now a.glyph (a.at + 6 * l.i) (a.at + 6 * (l.i + 1)) (a.count - l.i) (a.count - (l.i + 1)) (omega arith) (omega arith)
    (omega (arith, c.u16_at.ensures.0)) (omega (arith, c.u16_at-in-loop-i.ensures.0)))

pub loop-i-preserved : goal.loop-i-preserved
loop-i-preserved c =
    let a = c.args in
    let l = c.loop-i in
    l.invariant ∙ look-next a.bytes.now a.glyph (a.at + 6 * l.i) (a.at + 6 * (l.i + 1)) (a.count - l.i) (a.count - (l.i + 1)) (omega arith) (omega arith)
    (omega (arith, c.u16_at.ensures.0)) (omega (arith, c.u16_at-in-loop-i.ensures.0))

pub returns : goal.returns
returns c =
    let a = c.args in
    let l = c.loop-i in
    sym (l.invariant ∙ look-end a.bytes.now a.glyph (a.at + 6 * l.i) (a.count - l.i) (omega arith))
