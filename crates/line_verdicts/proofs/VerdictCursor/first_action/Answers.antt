use Rattle.std.proofs.Common.{refl, ◌-◌, ◌∙◌, arith}
use Rattle.line_verdicts.proofs.Told.{number-left, low-next, tell-pass, tell-take}
use Rattle.line_verdicts.proofs.VerdictCursor.first_action.Goals as goal

pub overflow_add-number : goal.overflow_add-number
overflow_add-number c = let l = c.loop-fires in
    omega (arith, number-left (c.args.self.now.next - 1) l.number l.fires l.substitutes l.invariant.some l.invariant.low)

pub loop-fires-preserved : goal.loop-fires-preserved
loop-fires-preserved c =
    let place = c.args.self.now.next - 1 in
    let l = c.loop-fires in
    let w = l.invariant in record {
      same = w.same ∙ tell-pass place l.number l.fires l.substitutes w.some w.low c.loop-fires-test.true;
      some = omega arith;
      low = low-next place l.number l.fires l.substitutes w.some w.low;
    }

pub overflow_add-self : goal.overflow_add-self
overflow_add-self c = let l = c.loop-fires in
    omega (arith, number-left (c.args.self.now.next - 1) l.number l.fires l.substitutes l.invariant.some l.invariant.low)

pub returns : goal.returns
returns c =
    let place = c.args.self.now.next - 1 in
    let l = c.loop-fires in
    let w = l.invariant in record {
      first = w.same ∙ tell-take place l.number l.fires l.substitutes w.some w.low c.loop-fires-test.false;
      stays = refl;
      number = omega (arith, number-left place l.number l.fires l.substitutes w.some w.low);
      low = low-next place l.number l.fires l.substitutes w.some w.low;
    }
