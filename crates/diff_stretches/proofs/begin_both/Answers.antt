-- `diff_stretches::begin_both` meets its contract.
use Rattle.diff_stretches.proofs.begin_both.Goals as goal

pub returns : goal.returns
returns c =
    let s = c.args.sources in
    record { first = c.first_run.ensures s.kind; second = c.first_run-2.ensures s.kind }
