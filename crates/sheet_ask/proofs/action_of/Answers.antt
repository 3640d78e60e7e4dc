-- `sheet_ask::action_of` meets its contract. The glyph has no list, or the one that it has is read. Assumes nothing.
use Rattle.std.proofs.Common.{ℕ, refl, subst}
use Rattle.sheet_ask.specs.Places.{ActionIn}
use Rattle.sheet_ask.proofs.PoolLaws.{no-action, the-action}
use Rattle.sheet_ask.proofs.action_of.Goals as goal

pub returns-in_err-at : goal.returns-in_err-at
returns-in_err-at c =
    let a = c.args in
    rw c.from_residual.ensures (record { answer = λ m v w. no-action a.bytes.now m v w a.direction a.glyph a.number c.in_err-at.ensures; room = refl })

pub returns : goal.returns
returns c =
    let a = c.args in
    let s = a.bytes.now in
    let f : ActionIn s c.in_ok-at.at a.number c.action_in.result = subst (λ (k : ℕ). ActionIn s c.in_ok-at.at k c.action_in.result) c.from.ensures c.action_in.ensures in
    record {
      answer = λ m v w. the-action s m v w a.direction a.glyph a.number c.in_ok-at.at c.in_ok-at.ensures c.action_in.result f;
      room = c.action_in.ensures.room;
    }
