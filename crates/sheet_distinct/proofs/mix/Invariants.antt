-- `sheet_distinct::mix` meets its contract. The loop's invariant: what is left to mix in, with what was, gives the whole mixed. Assumes nothing.
use Rattle.std.proofs.Common.{◌≡◌, ◌-◌, ◌*◌, ◌/◌, length}
use Rattle.sheet_distinct.specs.Slots.{mixed_by}
use Rattle.sheet_distinct.proofs.mix.Given as goal

abbrev pub invariant-loop-i : goal.invariant-loop-i
invariant-loop-i l = mixed_by l.factor l.words (length l.words / 4 - l.i) (4 * l.i) l.sum ≡ mixed_by l.factor l.words (length l.words / 4) 0 0
