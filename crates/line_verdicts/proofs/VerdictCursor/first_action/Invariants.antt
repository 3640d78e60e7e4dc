-- `line_verdicts::VerdictCursor::first_action` meets its contract.
use Rattle.std.proofs.Common.{◌≡◌, ◌-◌, ◌<◌, ◌^◌}
use Rattle.line_verdicts.specs.Bits.{tell_from}
use Rattle.line_verdicts.proofs.VerdictCursor.first_action.Given as goal

abbrev pub invariant-loop-fires : goal.invariant-loop-fires
invariant-loop-fires l = record {
  same : tell_from (l.self.next - 1) l.self.number l.self.fires l.self.substitutes ≡ tell_from (l.self.next - 1) l.number l.fires l.substitutes;
  some : 0 < l.fires;
  low : l.fires < 2 ^ (64 - l.number);
}

abbrev pub decreases-loop-fires : goal.decreases-loop-fires
decreases-loop-fires l = l.fires
