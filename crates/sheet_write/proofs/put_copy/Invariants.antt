-- `sheet_write::put_copy` meets its contract.
use Prim.Native.Nat.{◌+◌}
use mathlib.Core.Path.{◌≡◌}
use lib.Seq.{sets, slice}
use Rattle.sheet_write.proofs.put_copy.Given as goal

abbrev pub invariant-loop-i : goal.invariant-loop-i
invariant-loop-i l = sets l.room (l.end + l.i) (slice (l.from + l.i) l.end l.room) ≡ sets l.initial.room l.end (slice l.from l.end l.initial.room)
