-- `line_verdicts::VerdictCursor::find_glyph` meets its contract.
use Rattle.std.proofs.Common.{◌≡◌, ◌+◌, ◌-◌, ◌*◌, ◌<◌, length}
use Rattle.line_verdicts.proofs.Told.{told_at}
use Rattle.line_verdicts.proofs.VerdictCursor.find_glyph.Given as goal

abbrev pub invariant-loop-next : goal.invariant-loop-next
invariant-loop-next l = record {
  same : told_at l.bits l.self.next ≡ told_at l.bits l.next;
  some : 0 < length (told_at l.bits l.next);
  inside : 2 * l.next + 1 < length l.bits;
}

abbrev pub decreases-loop-next : goal.decreases-loop-next
decreases-loop-next l = length l.bits - l.next
