use native.Mathlib.Omega.{arith}
use mathlib.Core.Path.{◌≡◌, refl, ◌∙◌}
use Rattle.lookup_targets.proofs.Laws.{run-told}
use Rattle.lookup_targets.proofs.pass_told.Goals as goal

pub returns-then-format-ne2 : goal.returns-then-format-ne2
returns-then-format-ne2 c = (omega arith, (c.requires.true_notes.1, refl))

pub loop-glyph-init : goal.loop-glyph-init
loop-glyph-init c = (omega arith, c.requires.true_notes.1, refl)

pub next_run-next-requires : goal.next_run-next-requires
next_run-next-requires c =
    let two : 2 ≡ c.args.format = omega (arith, c.if-format-ne2.false) in
    (c.requires.at_bound.0, (omega (arith, c.loop-glyph-test.true, c.requires.at_bound.1.1.0), (two ∙ c.requires.at_bound.1.1.1, c.loop-glyph.invariant.1)))

pub returns-then-glyphs-next : goal.returns-then-glyphs-next
returns-then-glyphs-next c = (c.loop-glyph.invariant.0, (c.loop-glyph.invariant.1, c.loop-glyph.invariant.2))

pub returns-then-next : goal.returns-then-next
returns-then-next c = (c.loop-glyph.invariant.0, (c.loop-glyph.invariant.1, c.loop-glyph.invariant.2))

pub is_judged-requires : goal.is_judged-requires
is_judged-requires c = c.requires.at_bound.1.0

pub returns-then-not-is_judged : goal.returns-then-not-is_judged
returns-then-not-is_judged c = (c.loop-glyph.invariant.0, (c.loop-glyph.invariant.1, c.loop-glyph.invariant.2))

pub loop-glyph-smaller : goal.loop-glyph-smaller
loop-glyph-smaller c = let w = c.next_run-next.ensures.1 in omega (arith, w.begins, w.more, c.loop-glyph-test.true)

pub loop-glyph-preserved : goal.loop-glyph-preserved
loop-glyph-preserved c =
    let a = c.args in
    let w = c.next_run-next.ensures.1 in (
      omega (arith, c.loop-glyph.invariant.0, w.begins, w.more),
      w.serves,
      c.loop-glyph.invariant.2
          ∙ run-told a.table.now a.glyphs a.kind a.at a.base c.loop-glyph.glyph _ w c.requires.at_bound.1.1.0 c.if-glyphs-next.false c.if-next.false a.judged.now c.requires.true_notes.0 (c.is_judged.ensures c.if-not-is_judged.false),
    )

pub returns : goal.returns
returns c = (c.loop-glyph.invariant.0, (c.loop-glyph.invariant.1, c.loop-glyph.invariant.2))
