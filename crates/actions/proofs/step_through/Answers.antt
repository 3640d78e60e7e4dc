use Rattle.std.proofs.Common.{arith, ap, ℕ, ◌+◌}
use Rattle.actions.proofs.Notes.{both-passing, one-passing, known-clear, fewer-clear, passed-all, passed-next}
use Rattle.actions.proofs.Steps.{action-begins}
use Rattle.actions.proofs.step_through.Goals as goal

pub loop-passed-preserved-then-known-gt0 : goal.loop-passed-preserved-then-known-gt0
loop-passed-preserved-then-known-gt0 c =
    let l = c.loop-passed in
    let clear = known-clear c.args.table.now c.args.glyphs l.at _ l.invariant.2.passed (omega (arith, c.u8_at-note.ensures.0)) c.if-known-gt0.true in (
      passed-next c.args.table.now c.args.glyphs c.args.first l.passed l.at l.invariant.0 _ clear (ap (λ (k : ℕ). l.at + k) c.u32_at-at.ensures.0),
      omega (arith, action-begins _ _ _ clear, c.u32_at-at.ensures.1),
      l.invariant.2,
      omega arith,
    )

pub loop-passed-preserved : goal.loop-passed-preserved
loop-passed-preserved c =
    let l = c.loop-passed in
    let w = c.in-Some.ensures in (
      passed-next c.args.table.now c.args.glyphs c.args.first l.passed l.at l.invariant.0 _ w.0 w.1,
      w.2,
      both-passing l.invariant.2 (rw c.put_u8.ensures (one-passing c.args.table.now c.args.glyphs l.at _ l.invariant.2.passed w.0 (omega (arith, c.u8_at-note.ensures.0, c.if-known-gt0.false)) (omega (arith, c.u8_at-note.ensures.0)))),
      omega arith,
    )

pub returns : goal.returns
returns c = (
  fewer-clear c.args.table.now c.args.glyphs c.args.most c.loop-passed.passed c.args.first (omega arith) (passed-all c.args.table.now c.args.glyphs c.args.first c.loop-passed.passed c.loop-passed.at c.loop-passed.invariant.0),
  c.loop-passed.invariant.2,
)
