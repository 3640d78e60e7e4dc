use Rattle.write_list.proofs.Laws.{same-four, four_same}
use native.Mathlib.Omega.{arith}
use mathlib.Core.Path.{◌≡◌, refl, sym, ◌∙◌}
use Prim.Native.Nat.{◌+◌, ◌-◌, ◌*◌}
use Rattle.write_list.proofs.same_bytes.Goals as goal

pub loop-i-preserved : goal.loop-i-preserved
loop-i-preserved c =
    let a = c.args in
    let l = c.loop-i in
    let left : a.count - 4 * l.i ≡ a.count - 4 * (l.i + 1) + 4 = omega arith in
    let p : a.first + 4 * (l.i + 1) ≡ a.first + 4 * l.i + 4 = omega arith in
    let q : a.second + 4 * (l.i + 1) ≡ a.second + 4 * l.i + 4 = omega arith in
    let e = sym c.u32_at.ensures.0 ∙ c.if-u32_at.false ∙ c.u32_at-in-loop-i.ensures.0 in (
      (λ g. l.invariant.0 (same-four a.one.now a.other.now _ _ _ _ _ _ left p q (λ i. (c.type_inv.one i).fits) (λ i. (c.type_inv.other i).fits) e g)),
      (λ g. (four_same a.one.now a.other.now _ _ _ _ _ _ left p q (l.invariant.1 g)).1),
    )

pub returns-then-u32_at : goal.returns-then-u32_at
returns-then-u32_at c =
    let a = c.args in
    let l = c.loop-i in
    let left : a.count - 4 * l.i ≡ a.count - 4 * (l.i + 1) + 4 = omega arith in
    λ g. c.if-u32_at.true (c.u32_at.ensures.0 ∙ (four_same a.one.now a.other.now _ _ _ _ _ _ left refl refl (l.invariant.1 g)).0 ∙ sym c.u32_at-in-loop-i.ensures.0)
