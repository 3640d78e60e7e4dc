-- `share::LineSides::share_stage` meets its contract.
use native.Mathlib.Omega.{arith}
use Rattle.share.specs.Sides.{factors_at, extras_at}
use Rattle.share.proofs.Giving.{length-factors_at, length-extras_at}
use Rattle.share.proofs.Stages.{past-holds, stage-none, stage-within, stage-free, stage-past}
use Rattle.share.proofs.LineSides.share_stage.Goals as goal

pub returns-then-left-eq0 : goal.returns-then-left-eq0
returns-then-left-eq0 c = let a = c.args in
    let p = c.requires in
    let both = stage-none (factors_at a.stage a.self.numbers.now a.self.factors.now) (extras_at a.stage a.self.numbers.now) a.moves.now
    (omega (arith, p.addable.equal, length-factors_at a.stage a.self.numbers.now a.self.factors.now a.self.equal)) (omega (arith, p.addable.equal, length-extras_at a.stage a.self.numbers.now)) c.if-left-eq0.true in
    record { value = both.0; moves_after = both.1 }

pub returns-then-left-over : goal.returns-then-left-over
returns-then-left-over c = let a = c.args in
    let both = stage-within (factors_at a.stage a.self.numbers.now a.self.factors.now) a.moves.now c.requires.stage_total.0 (extras_at a.stage a.self.numbers.now) c.if-left-over.true c.give.ensures in
    record { value = both.0; moves_after = both.1 }

pub returns-then-unlimited-eq0 : goal.returns-then-unlimited-eq0
returns-then-unlimited-eq0 c = let a = c.args in
    let p = c.requires in
    let g = c.give_all-unlimited in
    let both = stage-free (factors_at a.stage a.self.numbers.now a.self.factors.now) a.moves.now p.stage_total.0 c.if-left-over.false (extras_at a.stage a.self.numbers.now)
    (omega (arith, g.ensures.value.0, c.if-unlimited-eq0.true)) (omega (arith, g.auto, p.addable.equal, length-extras_at a.stage a.self.numbers.now)) g.ensures.moves_after in
    record { value = both.0; moves_after = both.1 }

pub give-requires-2-clause-addable : goal.give-requires-2-clause-addable
give-requires-2-clause-addable c = let a = c.args in
    past-holds (factors_at a.stage a.self.numbers.now a.self.factors.now) a.moves.now c.requires.stage_total.0 c.if-left-over.false c.requires.addable (omega arith) c.give_all-unlimited.ensures.moves_after

pub returns : goal.returns
returns c = let a = c.args in
    let p = c.requires in
    let g = c.give_all-unlimited.ensures in
    let both = stage-past (factors_at a.stage a.self.numbers.now a.self.factors.now) a.moves.now p.stage_total.0 c.if-left-over.false (extras_at a.stage a.self.numbers.now)
    (omega (arith, g.value.0, c.if-unlimited-eq0.false)) g.moves_after c.give-2.ensures in
    record { value = both.0; moves_after = both.1 }
