use Rattle.std.proofs.Common.{◌∙◌, arith}
use Rattle.fields.proofs.Walk.{walk_steps}
use Rattle.lookup_targets.proofs.Laws.{passed-told}
use Rattle.lookup_targets.proofs.stretch_fault.Goals as goal

pub returns-in_err-judge_value : goal.returns-in_err-judge_value
returns-in_err-judge_value c =
    let a = c.args in
    let l = c.loop-untold in
    let u = c.in-Some.ensures in
    let e = l.invariant.0 ∙ passed-told a.table.now a.glyphs a.kind a.base _ a.place a.count l.value c.in-Some.untold l.invariant.1 u.0 (omega (arith, u.1)) u.2 in
    (grind (arith, walk_steps, u.1), c.judge_value.ensures.1)

pub loop-untold-preserved : goal.loop-untold-preserved
loop-untold-preserved c =
    let a = c.args in
    let l = c.loop-untold in
    let u = c.in-Some.ensures in
    let e = l.invariant.0 ∙ passed-told a.table.now a.glyphs a.kind a.base _ a.place a.count l.value c.in-Some.untold l.invariant.1 u.0 (omega (arith, u.1)) u.2 in
    (grind (arith, walk_steps, u.1), c.judge_value.ensures.1, omega (arith, u.1))

pub returns : goal.returns
returns c =
    let a = c.args in
    let l = c.loop-untold in
    let e = l.invariant.0 ∙ passed-told a.table.now a.glyphs a.kind a.base _ a.place a.count l.value a.count l.invariant.1 l.invariant.2 (omega arith) c.in_default.ensures in
    (grind (arith, walk_steps), l.invariant.1)
