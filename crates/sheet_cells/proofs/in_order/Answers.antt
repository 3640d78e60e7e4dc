use Rattle.std.proofs.Common.{arith}
use Rattle.encoding.specs.Distinct.{InOrder}
use Rattle.sheet_sections.proofs.SectionLaws.{says-equal}
use Rattle.sheet_cells.proofs.TurnLaws.{order-le, order-on, order-back, used-grows, order-end}
use Rattle.sheet_cells.proofs.in_order.Goals as goal

pub loop-number-init : goal.loop-number-init
loop-number-init c = (omega arith, (λ h. h), (λ h. h))

pub returns-then-used-number : goal.returns-then-used-number
returns-then-used-number c =
    let l = c.loop-number in
    let a = c.args in
    λ h. omega (arith, order-le a.count l.used l.number-index a.numbers.now c.from-number.result c.loop-number-test.true c.from-number.ensures (l.invariant.2 h))

pub loop-number-preserved : goal.loop-number-preserved
loop-number-preserved c =
    let l = c.loop-number in
    let a = c.args in
    let x = c.from-number.result in
    let used = c.used_after-used.result in (
      omega (arith, used-grows x l.used used c.used_after-used.ensures),
      (λ h. l.invariant.1 (order-back a.count l.used l.number-index a.numbers.now x c.loop-number-test.true c.from-number.ensures used c.used_after-used.ensures c.if-used-number.false h)),
      (λ h. order-on a.count l.used l.number-index a.numbers.now x c.loop-number-test.true c.from-number.ensures used c.used_after-used.ensures (l.invariant.2 h)),
    )

pub returns : goal.returns
returns c =
    let l = c.loop-number in
    let a = c.args in
    let e = order-end a.count l.used l.number-index a.numbers.now c.loop-number-test.false in
    says-equal l.used a.count (InOrder a.count 0 a.numbers.now) (λ u. l.invariant.1 (rw e u)) (λ h. rw e at (l.invariant.2 h))
