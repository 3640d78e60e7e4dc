use Rattle.std.proofs.Common.{◌≡◌, refl, ◌∙◌, arith}
use Rattle.encoding.specs.Upto.{from}
use Rattle.actions.specs.Actions.{bytes_at}
use Rattle.actions.proofs.Copies.{fill-again, fill_end}
use Rattle.actions.proofs.copied.Goals as goal

pub loop-i-init : goal.loop-i-init
unfolding bytes_at from
loop-i-init c = refl

pub loop-i-preserved : goal.loop-i-preserved
loop-i-preserved c = fill-again _ _ _ _ _ c.loop-i.invariant (omega arith) c.u8_at.ensures.0

pub returns : goal.returns
returns c = let e : c.loop-i.i ≡ c.args.size = omega arith in c.loop-i.invariant ∙ fill_end _ _ _ _ e
