-- `write_entries::Cells::number_entries` meets its contract.
use Rattle.write_entries.proofs.Laws.{Turn}
use lib.ListN.{length}
use mathlib.Core.Path.{◌≡◌}
use Prim.Native.Nat.{◌≤◌}
use Rattle.write_entries.proofs.Cells.number_entries.Given as goal

abbrev pub invariant-loop-i : goal.invariant-loop-i
invariant-loop-i l =
    (l.k ≤ 256) × (length l.firsts ≡ 256) × (length l.sheet ≡ 256)
    × Turn l.self.table.now l.self.here l.self.count l.firsts l.sheet l.k l.i
