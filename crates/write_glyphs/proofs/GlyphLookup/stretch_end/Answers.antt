-- `write_glyphs::GlyphLookup::stretch_end` meets its contract.
use Rattle.write_glyphs.proofs.Laws.{alike-before, alike-one, alike-array}
use mathlib.Core.Path.{refl}
use native.Mathlib.Omega.{arith}
use Rattle.write_glyphs.proofs.GlyphLookup.stretch_end.Goals as goal

pub returns-then-glyph-run : goal.returns-then-glyph-run
returns-then-glyph-run c =
    let a = c.args in
    let s = a.self.now in
    let r = a.run.now in
    (alike-before s.kind s.table.now s.base r.from r.until r.place r.array a.glyph a.seen.now a.number _ c.requires.near.1.1 c.if-glyph-run.true c.min.ensures, c.requires.agree.1)

pub returns-then-not-run : goal.returns-then-not-run
returns-then-not-run c =
    let a = c.args in
    let s = a.self.now in
    let r = a.run.now in
    (alike-one s.kind s.table.now s.base r.from r.until r.place r.array a.glyph a.seen.now a.number _ c.requires.near.1.1 c.if-glyph-run.false c.if-not-run.true refl, c.requires.agree.1)

pub returns : goal.returns
returns c =
    let a = c.args in
    let s = a.self.now in
    let r = a.run.now in
    let v = c.same_values in
    (alike-array s.kind s.table.now s.base r.from r.until r.place r.array a.glyph a.seen.now a.number _ c.requires.near.1.1 c.if-glyph-run.false c.if-not-run.false _ v.result refl (omega arith) v.ensures.1 (omega arith), v.ensures.2)
