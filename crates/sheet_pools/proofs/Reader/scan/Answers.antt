use Rattle.std.proofs.Common.{ℕ, ◌≡◌, subst, arith, length-set}
use Rattle.std.proofs.Math.Seq.{get_or-set_same}
use Rattle.sheet_distinct.specs.Scan.{Scanned}
use Rattle.sheet_distinct.proofs.ScanLaws.{scanned-none, scanned-more, scan-ended}
use Rattle.sheet_items.specs.Items.{no_item, item_code, SomeItem}
use Rattle.sheet_items.proofs.Laws.{some-free}
use Rattle.sheet_pools.proofs.Reader.scan.Goals as goal

pub loop-i-init : goal.loop-i-init
loop-i-init c =
    let x = c.args.self.now in
    scanned-none (item_code x.sort) (SomeItem x.sort x.glyphs) (some-free x.sort x.glyphs) (no_item x.sort) x.bytes.now c.args.at _ (omega arith)
    (get_or-set_same c.args.offsets.now 0 c.args.at 0 (omega arith))

pub loop-i-preserved : goal.loop-i-preserved
loop-i-preserved c =
    let x = c.args.self.now in
    let l = c.loop-i in
    scanned-more (item_code x.sort) (SomeItem x.sort x.glyphs) (some-free x.sort x.glyphs) (no_item x.sort) x.bytes.now c.args.at l.i l.place l.offsets l.invariant
    c.in_ok-place.place c.in_ok-place.ensures (omega (arith, length-set c.args.offsets.now 0 c.args.at))

pub returns-in_err-place : goal.returns-in_err-place
returns-in_err-place c =
    let x = c.args.self.now in
    let l = c.loop-i in
    rw c.from_residual.ensures
    (scan-ended (item_code x.sort) (SomeItem x.sort x.glyphs) (some-free x.sort x.glyphs) (no_item x.sort) x.bytes.now c.args.at l.i l.place l.offsets l.invariant
    c.args.count (omega arith) c.in_err-place.ensures)

pub returns : goal.returns
returns c =
    let x = c.args.self.now in
    let l = c.loop-i in
    let e : l.i ≡ c.args.count = omega arith in
    subst (λ (k : ℕ). Scanned (item_code x.sort) (SomeItem x.sort x.glyphs) x.bytes.now c.args.at k l.place l.offsets) e l.invariant
