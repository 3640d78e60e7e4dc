use Rattle.std.proofs.Common.{refl, sym, arith}
use Rattle.share.specs.Sides.{factors_at, extras_at}
use Rattle.share.proofs.Giving.{length-factors_at, length-extras_at, extra-hit, extra-miss, factor-hit, factor-miss, added-start, added-on, added_none, added-end, added-fits}
use Rattle.share.proofs.Lists.{upto_next, upto-end}
use Rattle.share.proofs.LineSides.give_all.Goals as goal

pub loop-i-init : goal.loop-i-init
loop-i-init c = let a = c.args in record {
  added = added-start (factors_at a.stage a.self.numbers.now a.self.factors.now) a.moves.now;
  extras = refl;
  few = omega arith;
}

pub loop-i-preserved-then-stage_in-stage : goal.loop-i-preserved-then-stage_in-stage
loop-i-preserved-then-stage_in-stage c = let a = c.args in
    let l = c.loop-i in
    let m = c.stage_in.ensures in
    let h = c.if-stage_in-stage.true in record {
      added = added_none l.invariant.added (omega (arith, c.requires.equal)) (factor-miss a.stage a.self.numbers.now l.i m a.self.factors.now h);
      extras = omega (arith, upto_next l.i (extras_at a.stage a.self.numbers.now), extra-miss a.stage a.self.numbers.now l.i m h);
      few = omega arith;
    }

pub overflow_add-moves : goal.overflow_add-moves
overflow_add-moves c = let a = c.args in
    let e = factor-hit a.stage a.self.numbers.now c.loop-i.i c.stage_in.ensures a.self.factors.now c.loop-i-test.true c.if-stage_in-stage.false in
    let f = added-fits c.loop-i.invariant.added c.requires.room in
    omega arith

pub loop-i-preserved : goal.loop-i-preserved
loop-i-preserved c = let a = c.args in
    let l = c.loop-i in
    let m = c.stage_in.ensures in
    let h = c.if-stage_in-stage.false in record {
      added = added-on l.invariant.added _ (omega (arith, c.requires.equal)) (omega (arith, length-factors_at a.stage a.self.numbers.now a.self.factors.now a.self.equal)) (sym (factor-hit a.stage a.self.numbers.now l.i m a.self.factors.now c.loop-i-test.true h));
      extras = omega (arith, upto_next l.i (extras_at a.stage a.self.numbers.now), extra-hit a.stage a.self.numbers.now l.i m c.loop-i-test.true h);
      few = omega arith;
    }

pub returns : goal.returns
returns c = let a = c.args in
    let e = upto-end c.loop-i.i (extras_at a.stage a.self.numbers.now) (omega (arith, length-extras_at a.stage a.self.numbers.now)) in
    record { value = (omega arith, omega arith); moves_after = added-end c.loop-i.invariant.added (omega (arith, length-factors_at a.stage a.self.numbers.now a.self.factors.now a.self.equal)) }
