use Rattle.write_entries.proofs.Laws.{stored-length, cells-next, cells-none}
use Rattle.write_entries.specs.Entries.{stored_at, cell_bytes}
use Rattle.fields.specs.Stores.{put_next}
use lib.ListN.{length, drop}
use native.Mathlib.Omega.{arith}
use mathlib.Core.List.{[], ◌∷◌}
use Prim.Native.Nat.{◌+◌, ◌<◌}
use Rattle.write_entries.proofs.Cells.put_cells.Goals as goal

pub loop-i-preserved : goal.loop-i-preserved
loop-i-preserved c =
    let s = c.args.self.now in
    let l = c.loop-i in
    let cells = stored_at s.table.now s.here s.count in
    let hi : l.i < length cells = omega (arith, stored-length s.table.now s.here s.count) in
    put_next (c.unwrap.result ∷ []) (cell_bytes c.args.sheet.now (drop (l.i + 1) cells)) (cell_bytes c.args.sheet.now (drop l.i cells)) l.out c.put_u8.new.out _
    (c.args.to + l.i) (c.args.to + (l.i + 1)) (cells-next c.args.sheet.now cells l.i c.unwrap.result hi cc) (omega arith) c.put_u8.ensures l.invariant

pub returns : goal.returns
returns c =
    let s = c.args.self.now in
    let none = cells-none c.args.sheet.now (stored_at s.table.now s.here s.count) c.loop-i.i (omega (arith, stored-length s.table.now s.here s.count)) in
    grind arith
