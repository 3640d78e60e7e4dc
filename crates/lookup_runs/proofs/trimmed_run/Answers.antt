-- `lookup_runs::trimmed_run` meets its contract.
use Rattle.lookup_runs.proofs.Laws.{trimmed-ends, trimmed-follows}
use Rattle.lookup_runs.proofs.trimmed_run.Goals as goal

pub returns-then-first-count-clause-follows : goal.returns-then-first-count-clause-follows
returns-then-first-count-clause-follows c =
    let k = c.requires in
    rw c.no_run.ensures (trimmed-ends _ _ _ _ k.1.1.1 k.1.0 k.0 _ _ k.1.1.0 c.u16_in-first.ensures.0 c.u16_in-count.ensures.0 _ c.max-from.ensures c.if-first-count.true)

pub returns-clause-follows : goal.returns-clause-follows
returns-clause-follows c =
    let k = c.requires in
    trimmed-follows _ _ _ _ k.1.1.1 k.1.0 k.0 _ _ k.1.1.0 c.u16_in-first.ensures.0 c.u16_in-count.ensures.0 _ c.max-from.ensures c.if-first-count.false c.u16_in-first.ensures.1
