-- `write_numbers::item_number` meets its contract.
use Rattle.write_numbers.proofs.Seen.{number-most, seen-still, seen_more}
use Rattle.write_numbers.proofs.Kept.{entered-old}
use Rattle.write_numbers.proofs.NoneLaws.{number-none}
use Rattle.write_numbers.specs.Numbered.{Seen}
use lib.ListN.{length, take}
use native.Mathlib.Omega.{arith}
use Prim.Native.Nat.{max, ◌≤◌}
use Prim.Native.Nat.{ℕ}
use mathlib.Core.List.{List}
use mathlib.Core.Path.{sym, ◌∙◌, subst}
use Rattle.write_numbers.proofs.item_number.Goals as goal

pub returns-then-u32_at-eq0 : goal.returns-then-u32_at-eq0
returns-then-u32_at-eq0 c =
    let a = c.args in
    let p = c.requires in
    let hk : a.k ≤ length a.firsts.now = omega (arith, p.room.1.0) in (
      entered-old a.kind a.table.now a.firsts.now a.others.now a.slots.now a.k a.place 0 (sym (number-none a.kind a.table.now (take a.k a.firsts.now) a.place (sym c.u32_at.ensures.0 ∙ c.if-u32_at-eq0.true))) (omega arith) p.kept.1.0,
      seen-still a.kind a.table.now a.firsts.now a.k hk a.seen.now 0 (omega arith) p.kept.1.1,
      omega arith,
    )

pub overflow_cast-number : goal.overflow_cast-number
overflow_cast-number c =
    let a = c.args in
    let p = c.requires in
    omega (arith, c.enter-number.ensures.number, number-most a.kind a.table.now a.firsts.now a.k (omega (arith, p.room.1.0)) a.place, p.room.0)

pub returns : goal.returns
returns c =
    let a = c.args in
    let p = c.requires in
    let e = c.enter-number in
    let hk : a.k ≤ length a.firsts.now = omega (arith, p.room.1.0) in
    let s = seen_more a.kind a.table.now a.firsts.now a.k hk e.new.firsts e.new.others e.new.slots a.seen.now a.place e.result e.ensures p.kept.1.1 in (
      e.ensures,
      subst (λ (l : List ℕ). Seen a.kind a.table.now e.new.firsts l (max a.k e.result)) (sym c.note_number.ensures) s,
      omega (arith, e.ensures.number, number-most a.kind a.table.now a.firsts.now a.k hk a.place),
    )
