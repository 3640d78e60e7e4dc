use Rattle.std.proofs.Common.{sym, ◌∙◌, arith}
use Rattle.machine.proofs.Steps.{unless-count, rows_next, rows-within}
use Rattle.machine.proofs.rows_from.Goals as goal

pub loop-row-preserved : goal.loop-row-preserved
loop-row-preserved c =
    let l = c.loop-row in
    let scan = sym c.in_ok-s.ensures.0 in (
      l.invariant.0 ∙ rows_next _ _ _ _ _ _ _ c.loop-row-test.true scan (omega arith),
      rows-within _ _ _ _ _ l.invariant.1 scan,
      rw (sym (unless-count _ _ scan).1) c.in_ok-s.ensures.1,
    )
