use Rattle.std.proofs.Common.{rules}
use Rattle.diff_clusters.proofs.Laws.{first-steps, second-steps, both-steps}
use Rattle.diff_clusters.proofs.next_class.Goals as goal

pub returns-in-None-Some-clause-step : goal.returns-in-None-Some-clause-step
returns-in-None-Some-clause-step c =
    let x = c.args in
    second-steps x.one.now x.other.now x.ones x.others _ _ c.in-None-Some.ensures.class (search rules) (search rules) c.only_second.ensures

pub returns-in-Some-None-clause-step : goal.returns-in-Some-None-clause-step
returns-in-Some-None-clause-step c =
    let x = c.args in
    first-steps x.one.now x.other.now x.ones x.others _ _ c.in-Some-None.ensures.class (search rules) (search rules) c.only_first.ensures

pub returns-in-Some-Some-clause-step : goal.returns-in-Some-Some-clause-step
returns-in-Some-Some-clause-step c =
    let x = c.args in
    first-steps x.one.now x.other.now x.ones x.others _ _ c.in-Some-Some.ensures.class (search rules) (search rules) c.only_first-in-Some-Some.ensures

pub returns-in-Some-Some-2-clause-step : goal.returns-in-Some-Some-2-clause-step
returns-in-Some-Some-2-clause-step c =
    let x = c.args in
    second-steps x.one.now x.other.now x.ones x.others _ _ c.in-Some-Some.ensures'.class (search rules) (search rules) c.only_second-in-Some-Some-2.ensures

pub returns-in-Some-Some-3-clause-step : goal.returns-in-Some-Some-3-clause-step
returns-in-Some-Some-3-clause-step c =
    let x = c.args in
    both-steps x.one.now x.other.now x.ones x.others _ _ _ _ c.in-Some-Some.ensures.class (search rules) (search rules) (search rules) c.compare.ensures c.after.ensures c.after-in-Some-Some-3.ensures
