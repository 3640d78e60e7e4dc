use Rattle.std.proofs.Common.{sym, ◌∙◌, arith}
use Rattle.fields.proofs.Laws.{then-stop, then-go}
use Rattle.lookup_targets.proofs.Laws.{run_end, run-judged}
use Rattle.lookup_targets.proofs.targets_fault.Goals as goal

pub returns-then-glyphs-run : goal.returns-then-glyphs-run
returns-then-glyphs-run c =
    let a = c.args in
    (sym (c.loop-glyph.invariant.0 ∙ run_end a.table.now a.glyphs a.kind a.at a.base c.loop-glyph.glyph _ c.next_run-run.ensures.1 c.requires.at_bound.1.1.0 c.if-glyphs-run.true), c.loop-glyph.invariant.2.0)

pub returns-in_err-run_fault : goal.returns-in_err-run_fault
returns-in_err-run_fault c =
    let a = c.args in
    let bad = c.in_err-run_fault.was in
    let e =
    c.loop-glyph.invariant.0
    ∙ run-judged a.table.now a.glyphs a.kind a.at a.base c.loop-glyph.glyph _ c.next_run-run.ensures.1 c.requires.at_bound.1.1.0 c.if-glyphs-run.false _ c.run_fault.ensures.0
    ∙ then-stop _ bad
    ∙ bad in
    (grind arith, c.run_fault.ensures.1.0)

pub loop-glyph-preserved : goal.loop-glyph-preserved
loop-glyph-preserved c =
    let a = c.args in (
      c.loop-glyph.invariant.0
          ∙ run-judged a.table.now a.glyphs a.kind a.at a.base c.loop-glyph.glyph _ c.next_run-run.ensures.1 c.requires.at_bound.1.1.0 c.if-glyphs-run.false _ c.run_fault.ensures.0
          ∙ then-go _ c.in_ok-run_fault.was
          ∙ c.pass_told-passed.ensures.1.1,
      c.pass_told-passed.ensures.1.0,
      c.run_fault.ensures.1,
    )
