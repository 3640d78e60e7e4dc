-- `sheet_pools::read_pool` meets its contract. Both sections are found, or no items of so many glyphs stand there. Assumes nothing.
use Rattle.std.proofs.Common.{arith}
use Rattle.sheet_sections.proofs.PoolLaws.{no_items, few-items, both-parse}
use Rattle.sheet_items.specs.Items.{no_item, item-discrete, item_code, OkItem, SomeItem}
use Rattle.sheet_items.proofs.Laws.{some-free, none-ok, some→, some←}
use Rattle.sheet_pools.proofs.read_pool.Goals as goal

pub returns-in_err-end : goal.returns-in_err-end
returns-in_err-end c =
    let a = c.args in
    let n = a.glyphs in
    rw c.from_residual.ensures
    (no_items (item-discrete a.sort) (item_code a.sort) (OkItem a.sort n) (no_item a.sort) (none-ok a.sort n) (SomeItem a.sort n) (some→ a.sort n) (some← a.sort n) (some-free a.sort n) n c.requires
    a.bytes.now (λ i. omega (arith, c.type_inv.bytes i)) a.at c.in_err-end.ensures)

pub read_number_runs-requires : goal.read_number_runs-requires
read_number_runs-requires c =
    let a = c.args in
    let n = a.glyphs in
    let few = few-items (item-discrete a.sort) (item_code a.sort) (OkItem a.sort n) (no_item a.sort) (none-ok a.sort n) (SomeItem a.sort n) (some→ a.sort n) (some← a.sort n) (some-free a.sort n) n c.requires
    a.bytes.now (λ i. omega (arith, c.type_inv.bytes i)) a.at c.in_ok-end.end c.in_ok-end.ensures in
    (c.requires, omega (arith, few, c.u32_at.ensures.0))

pub returns : goal.returns
returns c =
    let a = c.args in
    let n = a.glyphs in
    both-parse (item-discrete a.sort) (item_code a.sort) (OkItem a.sort n) (no_item a.sort) (none-ok a.sort n) (SomeItem a.sort n) (some→ a.sort n) (some← a.sort n) (some-free a.sort n) n c.requires
    a.bytes.now (λ i. omega (arith, c.type_inv.bytes i)) a.at c.in_ok-end.end c.in_ok-end.ensures c.u32_at.result c.u32_at.ensures.0 c.read_number_runs.result c.read_number_runs.ensures
