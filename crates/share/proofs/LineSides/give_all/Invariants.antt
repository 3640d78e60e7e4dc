-- `share::LineSides::give_all` meets its contract.
use Rattle.std.proofs.Common.{◌≡◌, ◌≤◌, ◌*◌}
use Rattle.share.specs.Sides.{factors_at, extras_at}
use Rattle.share.proofs.Giving.{Added}
use Rattle.share.proofs.Lists.{upto}
use Rattle.share.proofs.LineSides.give_all.Given as goal

abbrev pub invariant-loop-i : goal.invariant-loop-i
invariant-loop-i l = record {
  added : Added (factors_at l.stage l.self.numbers.now l.self.factors.now) l.initial.moves l.moves l.i;
  extras : l.unlimited ≡ upto l.i (extras_at l.stage l.self.numbers.now);
  few : l.unlimited ≤ 15 * l.i;
}
