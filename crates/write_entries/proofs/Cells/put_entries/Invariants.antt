-- `write_entries::Cells::put_entries` meets its contract.
use Rattle.write_entries.specs.Entries.{stored_entries}
use Rattle.meaning.specs.Sheet.{entry_code}
use Rattle.encoding.specs.Codes.{many}
use lib.Seq.{sets}
use lib.ListN.{drop}
use mathlib.Core.Path.{◌≡◌}
use Prim.Native.Nat.{◌+◌, ◌*◌}
use Rattle.write_entries.proofs.Cells.put_entries.Given as goal

abbrev pub invariant-loop-i : goal.invariant-loop-i
invariant-loop-i l =
    let entries = stored_entries l.self.table.now l.self.here in
    sets l.out (l.to + 4 * l.i) (many entry_code (entries (drop l.i l.firsts))) ≡ sets l.initial.out l.to (many entry_code (entries l.firsts))
