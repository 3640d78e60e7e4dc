use mathlib.Core.Path.{sym, ◌∙◌}
use native.Mathlib.Omega.{arith}
use lib.ListN.{length-map}
use Rattle.share.specs.Sides.{stage_in, stages_in}
use Rattle.share.proofs.Stages.{backing-on, backing-found, backing-end, back_none}
use Rattle.share.proofs.LineSides.go_back.Goals as goal

pub returns-then-left-eq0 : goal.returns-then-left-eq0
returns-then-left-eq0 c = let a = c.args in
    let p = c.requires in
    let both = back_none (stages_in a.self.numbers.now) a.self.factors.now a.moves.now (length-map a.self.numbers.now stage_in ∙ sym p.0.equal) (a.self.equal ∙ sym p.0.equal) c.if-left-eq0.true in
    record { value = both.0; moves_after = both.1 }

pub returns-then-over-gt0 : goal.returns-then-over-gt0
returns-then-over-gt0 c = let l = c.loop-stage in
    let h = c.loop-stage-test.true in
    let both = backing-found l.invariant (omega (arith, h)) (c.total_of-over.ensures ∙ c.requires.1.totals.at l.stage (omega (arith, h))) c.if-over-gt0.true c.give.ensures in
    record { value = both.0; moves_after = both.1 }

pub loop-stage-preserved : goal.loop-stage-preserved
loop-stage-preserved c = let l = c.loop-stage in
    let h = c.loop-stage-test.true in
    backing-on l.invariant (omega (arith, h)) (c.total_of-over.ensures ∙ c.requires.1.totals.at l.stage (omega (arith, h))) c.if-over-gt0.false

pub returns : goal.returns
returns c = let a = c.args in
    let both = backing-end c.loop-stage.invariant (length-map a.self.numbers.now stage_in ∙ sym c.requires.0.equal) (omega arith) in
    record { value = both.0; moves_after = both.1 }
