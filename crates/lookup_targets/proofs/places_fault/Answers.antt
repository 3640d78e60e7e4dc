use Rattle.std.proofs.Common.{◌+◌, sym, ◌∙◌, arith}
use Rattle.fields.proofs.Walk.{walk_none}
use Rattle.lookup_targets.specs.Values.{place_fault}
use Rattle.lookup_targets.proofs.Laws.{part-passed, part-known, part-stops, each-noted, along-noted, noted-ahead}
use Rattle.lookup_targets.proofs.places_fault.Goals as goal

pub loop-left-preserved-then-known-gt0 : goal.loop-left-preserved-then-known-gt0
loop-left-preserved-then-known-gt0 c =
    let a = c.args in
    let l = c.loop-left in
    let known = part-known a.table.now a.glyphs a.kind a.base l.p c.u8_at-known.result c.min-part.result l.invariant.3 c.u8_at-known.ensures.0 (omega (arith, c.min-part.ensures)) in
    (l.invariant.0 ∙ part-passed a.table.now a.glyphs a.kind a.base l.left l.p c.min-part.result (omega (arith, c.min-part.ensures)) known, l.invariant.1, omega (arith, c.min-part.ensures, l.invariant.2), l.invariant.3)

pub returns-in_err-stretch_fault : goal.returns-in_err-stretch_fault
returns-in_err-stretch_fault c =
    let a = c.args in
    let l = c.loop-left in
    let e = l.invariant.0 ∙ part-stops a.table.now a.glyphs a.kind a.base l.left l.p c.untold-part.result _ c.untold-part.ensures.1 (sym c.stretch_fault.ensures.0 ∙ c.in_err-stretch_fault.was) in
    (grind arith, (c.stretch_fault.ensures.1, l.invariant.3))

pub loop-left-preserved : goal.loop-left-preserved
loop-left-preserved c =
    let a = c.args in
    let l = c.loop-left in
    let u = c.untold-part in
    let clear = sym c.stretch_fault.ensures.0 ∙ c.in_ok-stretch_fault.was in (
      l.invariant.0 ∙ part-passed a.table.now a.glyphs a.kind a.base l.left l.p u.result u.ensures.1 clear,
      c.stretch_fault.ensures.1,
      omega (arith, u.ensures.1, l.invariant.2),
      noted-ahead a.table.now a.glyphs a.kind a.base l.p u.result l.invariant.3 clear (each-noted l.p u.result c.note_each.ensures),
    )

pub returns : goal.returns
returns c =
    let a = c.args in
    let l = c.loop-left in
    let clear = l.invariant.0 ∙ walk_none (λ q _. place_fault a.table.now a.glyphs a.kind a.base q) (λ q. q + 2) (λ q. 0) _ _ _ c.loop-left-test.false in
    (sym clear, (l.invariant.1, noted-ahead a.table.now a.glyphs a.kind a.base a.place a.count l.invariant.3 clear (along-noted a.place a.count c.note_values.ensures)))
