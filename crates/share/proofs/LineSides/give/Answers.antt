use Rattle.std.proofs.Common.{sym, ◌∙◌, arith}
use Rattle.share.specs.Sides.{weights_at}
use Rattle.share.proofs.Giving.{length-weights_at, weight-hit, weight-miss, giving-start, giving-ready, giving-fits, giving-on, giving-none, giving-end}
use Rattle.share.proofs.LineSides.give.Goals as goal

pub loop-i-init : goal.loop-i-init
loop-i-init c = let a = c.args in
    giving-start a.amount (weights_at a.extras a.stage a.self.numbers.now a.self.factors.now) a.moves.now c.requires.whole_weight.0 c.start-run.ensures

pub loop-i-preserved-then-stage_in-stage : goal.loop-i-preserved-then-stage_in-stage
loop-i-preserved-then-stage_in-stage c = let a = c.args in
    giving-none c.loop-i.invariant (omega (arith, c.requires.addable.equal)) (weight-miss a.stage a.self.numbers.now c.loop-i.i c.stage_in.ensures a.extras a.self.factors.now c.if-stage_in-stage.true)

pub next_share-requires : goal.next_share-requires
next_share-requires c = let a = c.args in
    let p = c.requires in
    let l = c.loop-i in
    let e = weight-hit a.stage a.self.numbers.now l.i c.stage_in.ensures a.extras a.self.factors.now c.loop-i-test.true c.if-stage_in-stage.false ∙ sym c.weight_of.ensures.value in
    giving-ready l.invariant e p.addable.small (omega (arith, p.whole_weight)) (omega (arith, p.whole_weight)) (c.weight_of.ensures.low (a.self.narrow l.i))

pub overflow_add-moves : goal.overflow_add-moves
overflow_add-moves c = let a = c.args in
    let p = c.requires in
    let l = c.loop-i in
    let e = weight-hit a.stage a.self.numbers.now l.i c.stage_in.ensures a.extras a.self.factors.now c.loop-i-test.true c.if-stage_in-stage.false ∙ sym c.weight_of.ensures.value in
    let f = giving-fits l.invariant e c.next_share.ensures (omega (arith, p.whole_weight)) p.addable.room in
    omega arith

pub loop-i-preserved : goal.loop-i-preserved
loop-i-preserved c = let a = c.args in
    let l = c.loop-i in
    let e = weight-hit a.stage a.self.numbers.now l.i c.stage_in.ensures a.extras a.self.factors.now c.loop-i-test.true c.if-stage_in-stage.false ∙ sym c.weight_of.ensures.value in
    giving-on l.invariant e c.next_share.ensures (omega (arith, c.requires.addable.equal)) (omega (arith, length-weights_at a.extras a.stage a.self.numbers.now a.self.factors.now a.self.equal))

pub returns : goal.returns
returns c = let a = c.args in
    giving-end c.loop-i.invariant (omega (arith, length-weights_at a.extras a.stage a.self.numbers.now a.self.factors.now a.self.equal))
