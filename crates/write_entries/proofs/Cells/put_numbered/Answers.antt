-- `write_entries::Cells::put_numbered` meets its contract.
use Rattle.write_entries.proofs.Laws.{entries-bytes, numbered-parts, numbered-length}
use Rattle.write_entries.specs.Entries.{stored_at, stored_entries, cell_bytes}
use Rattle.meaning.specs.Sheet.{entry_code}
use Rattle.encoding.specs.Codes.{many}
use Rattle.fields.specs.Stores.{put_two}
use Rattle.fields.specs.Field.{be32}
use lib.Seq.{sets}
use lib.ListN.{length}
use native.Mathlib.Omega.{arith}
use mathlib.Core.List.{◌++◌}
use mathlib.Core.Path.{ap, ◌∙◌, refl}
use Prim.Native.Nat.{◌+◌, ◌*◌}
use Rattle.write_entries.proofs.Cells.put_numbered.Goals as goal

pub returns : goal.returns
returns c =
    let a = c.args in
    let t = a.self.now.table.now in
    let here = a.self.now.here in
    let n = a.self.now.count in
    let l0 = a.out.now in
    let l1 = c.put_u32.new.out in
    let l2 = c.put_entries.new.out in
    let l3 = c.put_u32-2.new.out in
    let l4 = c.put_cells.new.out in
    let k = length a.firsts.now in
    let es = many entry_code (stored_entries t here a.firsts.now) in
    let cs = cell_bytes a.sheet.now (stored_at t here n) in
    let q = a.to + 4 + 4 * k in
    let w = c.requires.numbered in (
      omega (arith, numbered-length t here n a.firsts.now a.sheet.now k w refl),
      omega (arith, w.few),
      put_two (be32 k) (es ++ (be32 n ++ cs)) l0 l1 l4 a.to (a.to + 4) refl c.put_u32.ensures
          (put_two es (be32 n ++ cs) l1 l2 l4 (a.to + 4) q (omega (arith, entries-bytes t here a.firsts.now)) c.put_entries.ensures
          (put_two (be32 n) cs l2 l3 l4 q (q + 4) refl c.put_u32-2.ensures c.put_cells.ensures))
          ∙ ap (sets l0 a.to) (numbered-parts t here n a.firsts.now a.sheet.now k w refl),
    )
