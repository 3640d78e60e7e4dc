use Rattle.lookup_targets.proofs.Laws.{told-more}
use Rattle.lookup_targets.proofs.first_untold.Goals as goal

pub loop-value-preserved : goal.loop-value-preserved
loop-value-preserved c = told-more c.args.place c.args.from c.loop-value.value c.loop-value.invariant (c.is_judged.ensures c.if-not-is_judged.false)
