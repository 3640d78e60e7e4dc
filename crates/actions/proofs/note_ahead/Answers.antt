use Rattle.std.proofs.Common.{refl, ap, ℕ, ◌+◌, ◌-◌, arith}
use Rattle.actions.proofs.Notes.{both-passing, ahead-passing, first-clear, rest-clear}
use Rattle.actions.proofs.Steps.{action-begins}
use Rattle.actions.proofs.note_ahead.Goals as goal

pub overflow_add-at : goal.overflow_add-at
overflow_add-at c =
    let clear = first-clear c.args.table.now c.args.glyphs (c.args.count - c.loop-passed.passed) c.loop-passed.at (omega arith) c.loop-passed.invariant.0 in
    omega (arith, action-begins _ _ _ clear)

pub overflow_add-at-in-loop-passed : goal.overflow_add-at-in-loop-passed
overflow_add-at-in-loop-passed c =
    let clear = first-clear c.args.table.now c.args.glyphs (c.args.count - c.loop-passed.passed) c.loop-passed.at (omega arith) c.loop-passed.invariant.0 in
    omega (arith, action-begins _ _ _ clear)

pub loop-passed-preserved : goal.loop-passed-preserved
loop-passed-preserved c =
    let a = c.args in
    let l = c.loop-passed in (
      rest-clear a.table.now a.glyphs a.count l.passed l.at _ c.loop-passed-test.true l.invariant.0 (ap (λ (k : ℕ). l.at + k) c.u32_at-at.ensures.0),
      both-passing l.invariant.1 (rw c.put_u8.ensures (ahead-passing a.table.now a.glyphs l.at _ _ c.min-known.result (a.count - l.passed) l.invariant.1.passed l.invariant.0 c.u8_at-note.ensures.0 (omega arith) (omega arith) refl)),
    )
