-- `write_glyphs::GlyphLookup::number_run` meets its contract.
use Rattle.write_glyphs.specs.Places.{glyph_item, OneItem, PassStands}
use mathlib.Core.Path.{◌≡◌}
use Prim.Native.Nat.{◌-◌, ◌≤◌}
use Rattle.write_glyphs.proofs.GlyphLookup.number_run.Given as goal

abbrev pub invariant-loop-pass : goal.invariant-loop-pass
invariant-loop-pass l =
    let s = l.self in
    PassStands s.kind s.table.now (glyph_item s.kind s.table.now s.glyphs s.at s.base) s.glyphs l.ends l.nums l.firsts l.others l.slots l.seen l.pass.stretches l.pass.items l.pass.glyph
    × (l.initial.pass.glyph ≤ l.pass.glyph) × (l.pass.glyph ≤ l.initial.pass.glyph → l.pass.stretches ≡ l.initial.pass.stretches)
    × (l.pass.glyph ≤ l.run.until)
    × OneItem s.kind s.table.now s.base l.alike

abbrev pub decreases-loop-pass : goal.decreases-loop-pass
decreases-loop-pass l = l.run.until - l.pass.glyph
