-- `write_pool::Pool::put_sections` meets its contract.
use Prim.Native.Nat.{◌+◌}
use mathlib.Core.Path.{ap, sym, ◌∙◌, refl}
use mathlib.Core.List.{◌++◌}
use native.Mathlib.Omega.{arith}
use lib.ListN.{length}
use lib.Seq.{sets}
use Rattle.fields.specs.Field.{be32}
use Rattle.fields.specs.Stores.{put_two}
use Rattle.encoding.specs.Codes.{many}
use Rattle.write_item.specs.Items.{item_code}
use Rattle.write_numbers.specs.Numbered.{placed}
use Rattle.write_runs.specs.Spread.{spread}
use Rattle.encoding.specs.Sections.{number_run_section}
use Rattle.write_pool.proofs.Laws.{sections-parts, sections-length}
use Rattle.write_pool.proofs.Pool.put_sections.Goals as goal

pub returns : goal.returns
returns c =
    let a = c.args in
    let k = a.self.now.lookup.kind in
    let t = a.self.now.lookup.table.now in
    let l0 = a.out.now in
    let l1 = c.put_u32.new.out in
    let l2 = c.put_items-end.new.out in
    let l3 = c.put_runs.new.out in
    let n = length a.firsts.now in
    let bs = many (item_code k) (placed k t a.firsts.now) in
    let rs = number_run_section (spread 0 a.ends.now a.nums.now) in
    let p = c.put_items-end.ensures in
    let r = c.put_runs.ensures in (
      omega (arith, sections-length k t a.firsts.now a.ends.now a.nums.now, p.0, r.0),
      omega (arith, p.1, r.1),
      put_two (be32 n) (bs ++ rs) l0 l1 l3 a.self.now.to (a.self.now.to + 4) refl c.put_u32.ensures
          (put_two bs rs l1 l2 l3 (a.self.now.to + 4) c.put_items-end.result p.0 p.2 r.2)
          ∙ ap (sets l0 a.self.now.to) (sym (sections-parts k t a.firsts.now a.ends.now a.nums.now)),
    )
