use Rattle.diff_glyphs.proofs.Laws.{kept_none, first-rises, second-rises, stretch-stored, glyphs-whole}
use Rattle.diff_glyphs.specs.Glyphs.{glyph_differs}
use Rattle.diff_rule.proofs.Filled.{filled_none, filled_more, filled-all}
use Rattle.diff_rule.specs.declared.Difference.{Difference}
use Prim.Native.Nat.{ℕ, ◌+◌}
use lib.Seq.{sets}
use lib.ListN.{length}
use native.Mathlib.Omega.{arith}
use mathlib.Core.List.{List}
use mathlib.Core.Path.{◌≡◌, refl, ap, ◌∙◌}
use Rattle.diff_glyphs.proofs.put_by.Goals as goal

pub loop-glyph-init : goal.loop-glyph-init
loop-glyph-init c =
    let a = c.args in
    let p = c.requires in
    let w = p.0.sound in
    let k = a.sources.kind in (
      omega arith,
      c.begin_both-runs.ensures,
      tt,
      kept_none k a.direction a.one.now a.other.now a.same.now p.2,
      omega arith,
      filled_none (glyph_differs a.direction a.one.now a.other.now a.sources) a.list.now a.to 0,
      refl,
      refl,
    )

pub compare_places-compared-requires : goal.compare_places-compared-requires
compare_places-compared-requires c =
    let a = c.args in
    let p = c.requires in
    let l = c.loop-glyph in
    let s = c.next_stretch-next in (
      p.0.sound.short,
      p.0.sound.beside,
      first-rises a.direction a.one.now a.other.now a.sources l.glyph s.result s.ensures p.0.first,
      second-rises a.direction a.one.now a.other.now a.sources l.glyph s.result s.ensures p.0.second,
      omega (arith, p.1, l.invariant.6),
      l.invariant.2,
      l.invariant.3,
    )

pub loop-glyph-preserved : goal.loop-glyph-preserved
loop-glyph-preserved c =
    let a = c.args in
    let l = c.loop-glyph in
    let s = c.next_stretch-next in
    let q = c.compare_places-compared in
    let p = c.put_stretch-at in
    let f : ℕ → List Difference = glyph_differs a.direction a.one.now a.other.now a.sources in
    let e = stretch-stored a.direction a.one.now a.other.now a.sources l.glyph s.result s.ensures q.new.block q.result q.ensures.0 q.ensures.1 in (
      s.ensures.most,
      s.ensures.runs,
      q.ensures.1,
      q.ensures.2,
      omega (arith, l.invariant.4, p.ensures.2, s.ensures.more),
      filled_more f a.list.now l.list p.new.list a.to l.at p.result 0 l.glyph s.result.end (omega arith) (omega (arith, s.ensures.more)) l.invariant.5
          (p.ensures.0 ∙ ap (sets l.list l.at) e, p.ensures.1 ∙ ap (λ (x : List ℕ). l.at + length x) e),
      omega (arith, q.auto, l.invariant.6),
      omega (arith, q.auto, l.invariant.7),
    )

pub returns : goal.returns
returns c =
    let a = c.args in
    let l = c.loop-glyph in
    let e : l.glyph ≡ a.sources.glyphs = omega (arith, l.invariant.0, c.loop-glyph-test.false) in
    let whole = glyphs-whole a.direction a.one.now a.other.now a.sources in (
      filled-all (glyph_differs a.direction a.one.now a.other.now a.sources) a.list.now l.list a.to l.at 0 l.glyph a.sources.glyphs _ e whole l.invariant.5,
      omega (arith, l.invariant.4, l.invariant.0, c.requires.0.sound.few),
    )
