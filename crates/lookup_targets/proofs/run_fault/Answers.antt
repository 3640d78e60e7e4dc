use Rattle.std.proofs.Common.{◌∙◌}
use borrow.Author.Tests.{not-true}
use Rattle.lookup_targets.proofs.Laws.{one_value}
use Rattle.lookup_targets.specs.Values.{place_fault}
use Rattle.lookup_targets.proofs.run_fault.Goals as goal

pub returns-then-format-eq2 : goal.returns-then-format-eq2
returns-then-format-eq2 c =
    let a = c.args in (
      c.judge_value.ensures.0 ∙ one_value (place_fault a.table.now a.glyphs a.kind a.base) a.run.array _ a.run.place (not-true a.run.array c.if-not-run.true),
      (c.judge_value.ensures.1, c.requires.true_notes.1),
    )

pub returns-then-not-run : goal.returns-then-not-run
returns-then-not-run c =
    let a = c.args in (
      c.value_fault.ensures.0 ∙ one_value (place_fault a.table.now a.glyphs a.kind a.base) a.run.array _ a.run.place (not-true a.run.array c.if-not-run.true),
      (c.value_fault.ensures.1, c.requires.true_notes.1),
    )
