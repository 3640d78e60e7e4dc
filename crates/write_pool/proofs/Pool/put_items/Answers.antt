use Rattle.write_pool.proofs.Laws.{items-next, items-length, item-short}
use Rattle.write_item.specs.Items.{item_at, item_code}
use Rattle.fields.specs.Stores.{put_next}
use lib.ListN.{get_or}
use native.Mathlib.Omega.{arith}
use mathlib.Core.Path.{ap}
use Prim.Native.Nat.{ℕ, ◌+◌}
use Rattle.write_pool.proofs.Pool.put_items.Goals as goal

pub loop-place-preserved : goal.loop-place-preserved
loop-place-preserved c =
    let kind = c.args.self.now.lookup.kind in
    let t = c.args.self.now.lookup.table.now in
    let fs = c.args.firsts.now in
    let l = c.loop-place in
    let i = l.place-index in
    let size = c.item_size-end in (
      omega (arith, item-short kind t fs i c.requires.short.1 (omega arith)),
      omega (arith, items-length kind t fs i (omega arith)),
      put_next (item_code kind (item_at kind t (get_or fs i 0))) _ _ l.out c.put_item.new.out _ l.end (l.end + size.result)
          (items-next kind t fs i (omega arith)) (ap (λ (j : ℕ). l.end + j) size.ensures.0) c.put_item.ensures l.invariant.2,
    )
