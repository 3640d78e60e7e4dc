use mathlib.Core.Path.{sym, ◌∙◌}
use native.Mathlib.Omega.{arith}
use lib.ListN.{length-map}
use Rattle.share.specs.Sides.{stage_in}
use Rattle.share.proofs.Stages.{staging-on, staging-end}
use Rattle.share.proofs.LineSides.share_stages.Goals as goal

pub loop-stage-preserved : goal.loop-stage-preserved
loop-stage-preserved c = let l = c.loop-stage in
    let s = c.share_stage-left.ensures in
    staging-on l.invariant (omega (arith, c.loop-stage-test.true)) s.value s.moves_after (omega (arith, c.share_stage-left.auto))

pub returns : goal.returns
returns c = let a = c.args in
    let both = staging-end c.loop-stage.invariant (length-map a.self.numbers.now stage_in ∙ sym c.requires.0.equal) (omega arith) in
    record { value = both.0; moves_after = both.1 }
