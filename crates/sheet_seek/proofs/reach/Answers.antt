use Rattle.std.proofs.Common.{arith}
use Rattle.sheet_seek.proofs.WalkLaws.{walks-same, walks-next, walks-past, walks-done}
use Rattle.sheet_seek.proofs.reach.Goals as goal

pub loop-init : goal.loop-init
loop-init g c = λ q h. walks-same _ _ _ _ _ _ (omega arith) h

pub loop-preserved : goal.loop-preserved
loop-preserved g c = λ q h.
    let l = c.loop in
    l.invariant q (walks-next _ _ _ _ _ _ (omega arith) c.after-place.result c.after-place.ensures h)

pub returns-then-bytes-place : goal.returns-then-bytes-place
returns-then-bytes-place g c = λ room. c.loop.invariant c.loop.place (walks-past _ _ _ _ (omega arith))

pub returns : goal.returns
returns g c = λ room. c.loop.invariant c.loop.place (walks-done _ _ _ _ (omega arith))
