-- `write_numbers::enter` meets its contract.
use Prim.Native.Nat.{ℕ, ◌-◌, ◌+◌}
use mathlib.Core.Path.{◌≡◌, subst}
use native.Mathlib.Omega.{arith}
use lib.ListN.{get_or}
use Rattle.write_item.specs.Items.{item_at}
use Rattle.write_numbers.proofs.Kept.{enters-old, enters-slot, enters-others}
use Rattle.write_numbers.proofs.enter.Goals as goal

pub returns-in_default : goal.returns-in_default
returns-in_default c =
    let a = c.args in
    let q = c.requires.kept in
    let p = c.slot_of-at in
    enters-slot a.kind a.table.now a.firsts.now a.others.now a.slots.now a.k a.place p.result (omega arith) q.1.0 p.ensures.0 q.1.1 (omega (arith, p.ensures.1)) (omega arith)

pub returns-then-same_item : goal.returns-then-same_item
returns-then-same_item c =
    let a = c.args in
    let q = c.requires.kept in
    let p = c.slot_of-at in
    enters-old a.kind a.table.now a.firsts.now a.others.now a.slots.now a.k a.place p.result (omega arith) q.1.0 p.ensures.0 q.1.1 c.in-Some.held (omega (arith, q.1.1.slot p.result))
    c.if-same_item.ensures

pub returns-then-has_at : goal.returns-then-has_at
returns-then-has_at c =
    let a = c.args in
    let q = c.requires.kept in
    let p = c.slot_of-at in
    let n = c.earlier_count-n.result in
    let e = c.if-has_at.ensures in
    enters-old a.kind a.table.now a.firsts.now a.others.now a.slots.now a.k a.place p.result (omega arith) q.1.0 p.ensures.0 q.1.1 (get_or a.others.now (n + 1) 0) (q.1.1.sorted.within n e.0) e.1

pub returns : goal.returns
returns c =
    let a = c.args in
    let q = c.requires.kept in
    let p = c.slot_of-at in
    let f = item_at a.kind a.table.now in
    let held : c.in-Some.held ≡ get_or a.slots.now p.result 0 - 1 = omega (arith, c.in-Some.ensures) in
    let miss = subst (λ (i : ℕ). f (get_or a.firsts.now i 0) ≡ f a.place → ⊥) held c.if-same_item.ensures in
    enters-others a.kind a.table.now a.firsts.now a.others.now a.slots.now a.k a.place p.result (omega arith) q.1.0 p.ensures.0 q.1.1 c.earlier_count-n.result c.earlier_count-n.ensures
    (omega (arith, c.in-Some.ensures)) miss c.if-has_at.ensures _ c.insert.ensures
