use Prim.Native.Nat.{ℕ, ◌+◌, ◌-◌, ◌/◌}
use mathlib.Core.Path.{subst}
use mathlib.Core.Bool.{Bool}
use native.Mathlib.Omega.{arith}
use Rattle.encoding.specs.Tests.{Says}
use Rattle.write_item.specs.Items.{item_at, Earlier}
use Rattle.write_numbers.proofs.Halves.{halves-lower, halves-upper}
use Rattle.write_numbers.proofs.Others.earlier_count.Goals as goal

pub loop-low-preserved-then-is_earlier : goal.loop-low-preserved-then-is_earlier
loop-low-preserved-then-is_earlier c =
    let o = c.args.self.now in
    let l = c.loop-low in
    let f = item_at o.kind o.table.now in
    let middle = l.low + (l.high - l.low) / 2 in
    let e = subst (λ (b : Bool). Says b (Earlier o.kind (f c.place.result) (f c.args.place))) c.if-is_earlier.true c.is_earlier.ensures in
    halves-upper o.kind o.table.now o.firsts.now o.list.now (f c.args.place) _ l.low l.high middle (omega arith) (omega arith) c.requires.sorted l.invariant
    (subst (λ (p : ℕ). Earlier o.kind (f p) (f c.args.place)) c.place.ensures e)

pub loop-low-preserved : goal.loop-low-preserved
loop-low-preserved c =
    let o = c.args.self.now in
    let l = c.loop-low in
    let f = item_at o.kind o.table.now in
    let middle = l.low + (l.high - l.low) / 2 in
    let e = subst (λ (b : Bool). Says b (Earlier o.kind (f c.place.result) (f c.args.place))) c.if-is_earlier.false c.is_earlier.ensures in
    halves-lower o.kind o.table.now o.firsts.now o.list.now (f c.args.place) _ l.low l.high middle (omega arith) (omega arith) c.requires.sorted l.invariant
    (subst (λ (p : ℕ). Earlier o.kind (f p) (f c.args.place) → ⊥) c.place.ensures e)
