-- `share::LineSides::go_back` meets its contract.
use Rattle.share.specs.Sides.{stages_in}
use Rattle.share.proofs.Stages.{Backing}
use Rattle.share.proofs.LineSides.go_back.Given as goal

abbrev pub invariant-loop-stage : goal.invariant-loop-stage
invariant-loop-stage l = Backing (stages_in l.self.numbers.now) l.self.factors.now l.left l.initial.moves l.stage l.moves
