-- `share::LineSides::give` meets its contract.
use Rattle.share.specs.Sides.{weights_at}
use Rattle.share.proofs.Giving.{Giving}
use Rattle.share.proofs.LineSides.give.Given as goal

abbrev pub invariant-loop-i : goal.invariant-loop-i
invariant-loop-i l = Giving l.amount (weights_at l.extras l.stage l.self.numbers.now l.self.factors.now) l.initial.moves l.run l.moves l.i
