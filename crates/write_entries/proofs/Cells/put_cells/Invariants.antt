-- `write_entries::Cells::put_cells` meets its contract.
use Rattle.write_entries.specs.Entries.{stored_at, cell_bytes}
use lib.Seq.{sets}
use lib.ListN.{drop}
use mathlib.Core.Path.{◌≡◌}
use Prim.Native.Nat.{◌+◌}
use Rattle.write_entries.proofs.Cells.put_cells.Given as goal

abbrev pub invariant-loop-i : goal.invariant-loop-i
invariant-loop-i l =
    let cells = stored_at l.self.table.now l.self.here l.self.count in
    sets l.out (l.to + l.i) (cell_bytes l.sheet (drop l.i cells)) ≡ sets l.initial.out l.to (cell_bytes l.sheet cells)
