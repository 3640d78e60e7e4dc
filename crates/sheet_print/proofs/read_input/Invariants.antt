-- `sheet_print::read_input` meets its contract: no more bytes are counted than were lent.
use Rattle.std.proofs.Common.{◌-◌, ◌≤◌, length}
use Rattle.sheet_print.proofs.read_input.Given as goal

abbrev pub invariant-loop-at : goal.invariant-loop-at
invariant-loop-at l = l.at ≤ length l.input

abbrev pub decreases-loop-at : goal.decreases-loop-at
decreases-loop-at l = length l.input - l.at
