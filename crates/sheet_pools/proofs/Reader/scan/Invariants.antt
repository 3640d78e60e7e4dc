-- `sheet_pools::Reader::scan` meets its contract. The loop's invariant: i items were found, and the offsets are where they begin and end. Assumes nothing.
use Rattle.sheet_distinct.specs.Scan.{Scanned}
use Rattle.sheet_items.specs.Items.{item_code, SomeItem}
use Rattle.sheet_pools.proofs.Reader.scan.Given as goal

abbrev pub invariant-loop-i : goal.invariant-loop-i
invariant-loop-i l = Scanned (item_code l.self.sort) (SomeItem l.self.sort l.self.glyphs) l.self.bytes.now l.at l.i l.place l.offsets
