use Rattle.lookup_targets.proofs.Laws.{along-turn, along-over}
use native.Mathlib.Omega.{arith}
use mathlib.Core.Path.{refl, sym, ap, ◌∙◌}
use Prim.Native.Nat.{◌-◌, max}
use borrow.Author.Rules.{rules}
use Rattle.lookup_targets.proofs.note_values.Goals as goal

pub loop-left-init : goal.loop-left-init
loop-left-init c = ((c.args.count, omega arith, refl), refl, omega arith, refl)

pub loop-left-smaller : goal.loop-left-smaller
loop-left-smaller c = omega (arith, c.min-part.ensures, c.max-told.ensures, c.loop-left-test.true)

pub loop-left-preserved : goal.loop-left-preserved
loop-left-preserved c =
    let l = c.loop-left in
    let e = c.min-part.ensures in
    let larger = c.max-told.ensures in
    let some = c.loop-left-test.true in (
      (
        l.invariant.0.0 - 1,
        omega (arith, e, l.invariant.0.1, larger, some),
        l.invariant.0.2 ∙ along-turn l.invariant.0.0 l.p l.left _ _ _ _ some l.invariant.0.1 (omega (arith, larger, c.u8_at.ensures.0)) e c.note_at.ensures,
      ),
      omega (arith, e, l.invariant.1),
      omega (arith, e, l.invariant.2),
      search rules,
    )

pub returns : goal.returns
returns c = sym (c.loop-left.invariant.0.2 ∙ along-over _ _ _ _ (omega (arith, c.loop-left-test.false)))
