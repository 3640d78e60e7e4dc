-- `line_justify::fill` meets its contract: so far as the loop has come, the list has the first verdicts at its front.
use Rattle.std.proofs.Common.{◌≡◌}
use Rattle.line_verdicts.specs.Bits.{told}
use Rattle.line_justify.specs.Stored.{filled_with}
use Rattle.line_justify.proofs.Laws.{Taken}
use Rattle.line_justify.proofs.fill.Given as goal

abbrev pub invariant-loop-at : goal.invariant-loop-at
invariant-loop-at l = record {
  filled : l.list ≡ filled_with (told l.bits) l.at l.initial.list;
  taken : Taken l.bits l.at l.cursor;
}
