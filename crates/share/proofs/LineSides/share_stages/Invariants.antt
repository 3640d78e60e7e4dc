-- `share::LineSides::share_stages` meets its contract.
use Rattle.share.specs.Sides.{stages_in, extras_in}
use Rattle.share.proofs.Stages.{Staging}
use Rattle.share.proofs.LineSides.share_stages.Given as goal

abbrev pub invariant-loop-stage : goal.invariant-loop-stage
invariant-loop-stage l = Staging (stages_in l.self.numbers.now) l.self.factors.now (extras_in l.self.numbers.now) l.gap l.initial.moves l.stage l.left l.moves
