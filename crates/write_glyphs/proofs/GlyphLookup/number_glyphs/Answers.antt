use Rattle.write_glyphs.proofs.Stands.{stands-none, passed}
use Rattle.write_glyphs.specs.Places.{glyph_item}
use Rattle.write_glyphs.proofs.Laws.{alike-none}
use native.Mathlib.Omega.{arith}
use borrow.Author.Rules.{rules}
use Rattle.write_glyphs.proofs.GlyphLookup.number_glyphs.Goals as goal

pub loop-way-init : goal.loop-way-init
loop-way-init c =
    let s = c.args.self.now in
    let t = s.table.now in
    let r = c.args.rooms.now in
    let blank = c.requires in (
      stands-none s.kind t (glyph_item s.kind t s.glyphs s.at s.base) s.glyphs r.ends.now r.nums.now r.firsts.now r.others.now r.slots.now r.seen.now blank.0 blank.1.0 blank.1.1.0,
      (λ h g. c.begin.ensures.1 s.glyphs s.clear),
      search rules,
      alike-none s.kind t s.base r.alike.now blank.1.1.1,
    )

pub returns-clause-passed : goal.returns-clause-passed
returns-clause-passed c =
    let s = c.args.self.now in
    let l = c.loop-way in
    let r = l.rooms in
    passed s.kind s.table.now s.glyphs s.at s.base r.ends.now r.nums.now r.firsts.now r.others.now r.slots.now r.seen.now l.way.pass.stretches l.way.pass.items l.way.pass.glyph l.invariant.0 (λ h. grind (arith, l.invariant.0.fits))
