use Rattle.diff_machine.proofs.Laws.{classes-whole}
use Rattle.diff_machine.specs.Machines.{class_differs}
use Rattle.diff_rule.specs.declared.Aspect.TheVariants.{Class}
use Rattle.diff_rule.proofs.Filled.{filled_none, filled_next, filled-all}
use Rattle.diff_rule.proofs.Stored.{stores-other}
use Rattle.diff_rule.specs.Differences.{noted}
use Rattle.diff_rule.specs.declared.Difference.{Difference}
use Rattle.diff_rule.specs.declared.Mark.{Mark}
use Prim.Native.Nat.{ℕ, ◌<◌}
use native.Mathlib.Omega.{arith}
use Rattle.std.specs.Prelude.{Option}
use mathlib.Core.List.{List}
use mathlib.Core.Path.{◌≡◌, ap}
use Rattle.diff_machine.proofs.put_classes.Goals as goal

pub loop-glyph-init : goal.loop-glyph-init
loop-glyph-init c =
    let a = c.args in
    let s = c.class_span-span in
    (omega arith, filled_none (class_differs a.one.now a.other.now a.machines) a.list.now a.to s.result.start)

pub loop-glyph-preserved : goal.loop-glyph-preserved
loop-glyph-preserved c =
    let a = c.args in
    let l = c.loop-glyph in
    let p = c.put_noted-at in
    let s = c.class_span-span in
    let o = c.compare_classes-mark in
    let f : ℕ → List Difference = class_differs a.one.now a.other.now a.machines in
    let g : ℕ = l.glyph in
    let h : g < s.result.end = c.loop-glyph-test.true in
    let e = o.ensures a.machines.first a.machines.second c.class_table-ones.ensures c.class_table-others.ensures in (
      omega (arith, l.invariant.0, p.ensures.1),
      filled_next f a.list.now l.list p.new.list a.to l.at p.result s.result.start g (omega arith) l.invariant.1
          (stores-other l.list p.new.list l.at p.result _ _ (ap (λ (m : Option Mark). noted a.machines.direction Class g 0 m) e) p.ensures.0),
    )

pub returns : goal.returns
returns c =
    let a = c.args in
    let l = c.loop-glyph in
    let s = c.class_span-span in
    let x = c.class_table-ones in
    let y = c.class_table-others in
    let e : l.glyph ≡ s.result.end = omega (arith, c.loop-glyph-test.false, s.ensures.rises) in
    let whole = classes-whole a.one.now a.other.now a.machines x.result y.result s.result x.ensures y.ensures s.ensures in (
      filled-all (class_differs a.one.now a.other.now a.machines) a.list.now l.list a.to l.at s.result.start l.glyph s.result.end _ e whole l.invariant.1,
      omega (arith, l.invariant.0, s.ensures.most, c.requires.0.few),
    )
