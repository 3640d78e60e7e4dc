-- `write_pool::Pool::put_items` meets its contract.
use Rattle.write_numbers.specs.Numbered.{placed}
use Rattle.write_item.specs.Items.{item_code}
use Rattle.encoding.specs.Codes.{many}
use lib.Seq.{sets}
use lib.ListN.{length, drop}
use mathlib.Core.Path.{◌≡◌}
use Prim.Native.Nat.{◌+◌, ◌*◌, ◌≤◌}
use Rattle.write_pool.proofs.Pool.put_items.Given as goal

abbrev pub invariant-loop-place : goal.invariant-loop-place
invariant-loop-place l =
    let left = many (item_code l.kind) (placed l.kind l.table (drop l.place-index l.firsts)) in
    let all = many (item_code l.kind) (placed l.kind l.table l.firsts) in
    (l.end ≤ l.to + 5380 * l.place-index) × (l.end + length left ≡ l.to + length all) × (sets l.out l.end left ≡ sets l.initial.out l.to all)
