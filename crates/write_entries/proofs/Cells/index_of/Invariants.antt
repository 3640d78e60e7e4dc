-- `write_entries::Cells::index_of` meets its contract.
use Rattle.machine.specs.Cells.{entry_at}
use Rattle.meaning.specs.Discrete.{Entry-discrete}
use Rattle.encoding.specs.Distinct.{index}
use lib.ListN.{drop}
use mathlib.Core.List.{map}
use mathlib.Core.Path.{◌≡◌}
use Prim.Native.Nat.{◌+◌}
use Rattle.write_entries.proofs.Cells.index_of.Given as goal

abbrev pub invariant-loop-i : goal.invariant-loop-i
invariant-loop-i l =
    let f = entry_at l.self.table.now l.self.here in
    index Entry-discrete (f l.stored) (map f l.firsts) ≡ l.i + index Entry-discrete (f l.stored) (map f (drop l.i l.firsts))
