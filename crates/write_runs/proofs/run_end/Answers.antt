use Rattle.write_runs.proofs.Laws.{stretch-more}
use native.Mathlib.Omega.{arith}
use Rattle.write_runs.proofs.run_end.Goals as goal

pub loop-end-preserved : goal.loop-end-preserved
loop-end-preserved c =
    let l = c.loop-end in
    (omega arith, omega arith, stretch-more c.args.xs.now c.args.first l.end _ l.invariant.0 (omega arith) c.if-xs-end.false l.invariant.2)
