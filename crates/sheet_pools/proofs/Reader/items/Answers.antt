-- `sheet_pools::Reader::items` meets its contract. As many items as are counted were found, no two alike, or no such section stands there. Assumes nothing.
use Rattle.std.proofs.Common.{◌<◌, ◌^◌, arith}
use Rattle.sheet_distinct.proofs.ScanLaws.{items-short, items-many, items-none, items-twice, items-found}
use Rattle.sheet_items.specs.Items.{no_item, item-discrete, item_code, SomeItem}
use Rattle.sheet_items.proofs.Laws.{some-free}
use Rattle.sheet_pools.proofs.Reader.items.Goals as goal

pub returns-in_err-count : goal.returns-in_err-count
returns-in_err-count c =
    let x = c.args.self.now in
    let few : x.glyphs < 2 ^ 32 = omega (arith, x.few) in
    rw c.from_residual.ensures
    (items-short (item_code x.sort) (SomeItem x.sort x.glyphs) (some-free x.sort x.glyphs) (no_item x.sort) (item-discrete x.sort) x.glyphs few x.bytes.now c.args.at
    (omega (arith, c.in_err-count.ensures)))

pub returns-then-self-count : goal.returns-then-self-count
returns-then-self-count c =
    let x = c.args.self.now in
    let few : x.glyphs < 2 ^ 32 = omega (arith, x.few) in
    let n = c.in_ok-count.ensures in
    items-many (item_code x.sort) (SomeItem x.sort x.glyphs) (some-free x.sort x.glyphs) (no_item x.sort) (item-discrete x.sort) x.glyphs few x.bytes.now c.args.at
    x.are_bytes (omega (arith, n.0)) (omega (arith, n.1))

pub returns-in_err-end : goal.returns-in_err-end
returns-in_err-end c =
    let x = c.args.self.now in
    let few : x.glyphs < 2 ^ 32 = omega (arith, x.few) in
    let n = c.in_ok-count.ensures in
    rw c.from_residual-in_err-end.ensures
    (items-none (item_code x.sort) (SomeItem x.sort x.glyphs) (some-free x.sort x.glyphs) (no_item x.sort) (item-discrete x.sort) x.glyphs few x.bytes.now c.args.at
    x.are_bytes (omega (arith, n.0)) c.in_ok-count.count n.1 c.in_err-end.ensures)

pub returns-then-not-distinct : goal.returns-then-not-distinct
returns-then-not-distinct c =
    let x = c.args.self.now in
    let few : x.glyphs < 2 ^ 32 = omega (arith, x.few) in
    let n = c.in_ok-count.ensures in
    items-twice (item_code x.sort) (SomeItem x.sort x.glyphs) (some-free x.sort x.glyphs) (no_item x.sort) (item-discrete x.sort) x.glyphs few x.bytes.now c.args.at
    x.are_bytes (omega (arith, n.0)) c.in_ok-count.count n.1 c.in_ok-end.end c.scan.new.offsets c.in_ok-end.ensures c.if-not-distinct.ensures

pub returns : goal.returns
returns c =
    let x = c.args.self.now in
    let few : x.glyphs < 2 ^ 32 = omega (arith, x.few) in
    let n = c.in_ok-count.ensures in
    items-found (item_code x.sort) (SomeItem x.sort x.glyphs) (some-free x.sort x.glyphs) (no_item x.sort) (item-discrete x.sort) x.glyphs few x.bytes.now c.args.at
    x.are_bytes (omega (arith, n.0)) c.in_ok-count.count n.1 c.in_ok-end.end c.scan.new.offsets c.in_ok-end.ensures (omega arith) c.if-not-distinct.ensures
