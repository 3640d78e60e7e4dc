-- `write_glyphs::GlyphLookup::number_glyphs` meets its contract.
use Rattle.write_glyphs.specs.Passing.{StandsAt, OneItemAt, SameRooms}
use Rattle.lookup.specs.Pass.{Serves}
use lib.ListN.{length}
use Prim.Native.Nat.{◌-◌, ◌<◌}
use Rattle.write_glyphs.proofs.GlyphLookup.number_glyphs.Given as goal

abbrev pub invariant-loop-way : goal.invariant-loop-way
invariant-loop-way l =
    let s = l.self in
    StandsAt s l.rooms l.way.pass
    × (l.way.pass.stretches < length l.rooms.ends.now → l.way.pass.glyph < s.glyphs → Serves s.table.now s.at l.way.pass.glyph l.way.cursor)
    × SameRooms l.initial.rooms l.rooms
    × OneItemAt s l.rooms

abbrev pub decreases-loop-way : goal.decreases-loop-way
decreases-loop-way l = l.self.glyphs - l.way.pass.glyph
