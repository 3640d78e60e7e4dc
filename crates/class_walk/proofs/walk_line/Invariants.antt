-- `class_walk::walk_line` meets its contract.
use Rattle.std.proofs.Common.{◌+◌, ◌-◌, ◌*◌, length}
use Rattle.class_walk.proofs.Loop.{Stands}
use Rattle.class_walk.proofs.walk_line.Given as goal

abbrev pub invariant-loop-spent : goal.invariant-loop-spent
invariant-loop-spent l = Stands l.table l.here l.glyphs l.starts l.ends l.base l.column l.place l.mark l.classes l.count l.spent

abbrev pub decreases-loop-spent : goal.decreases-loop-spent
decreases-loop-spent l = (length l.glyphs + 1 - l.place) * 257 + (256 - l.spent)
