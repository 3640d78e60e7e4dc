-- A pass over a lookup as the code holds it: where it stands in its rooms, and what it leaves of them.
use Rattle.std.specs.Prelude.{◌≡◌, length}
use Rattle.write_glyphs.specs.declared.GlyphLookup.{GlyphLookup}
use Rattle.write_glyphs.specs.declared.Pass.{Pass}
use Rattle.write_glyphs.specs.declared.Rooms.{Rooms}
use Rattle.write_glyphs.specs.Places.{glyph_item, OneItem, PassStands}

abbrev pub StandsAt : GlyphLookup → Rooms → Pass → Type 0
StandsAt l r p =
    PassStands l.kind l.table.now (glyph_item l.kind l.table.now l.glyphs l.at l.base) l.glyphs r.ends.now r.nums.now r.firsts.now r.others.now r.slots.now r.seen.now p.stretches p.items p.glyph

abbrev pub OneItemAt : GlyphLookup → Rooms → Type 0
OneItemAt l r = OneItem l.kind l.table.now l.base r.alike.now

-- each room has as many elements as before
pub record SameRooms (r₀ r : Rooms) : Type 0 where
  pub ends : length r.ends.now ≡ length r₀.ends.now
  pub nums : length r.nums.now ≡ length r₀.nums.now
  pub firsts : length r.firsts.now ≡ length r₀.firsts.now
  pub others : length r.others.now ≡ length r₀.others.now
  pub slots : length r.slots.now ≡ length r₀.slots.now
  pub seen : length r.seen.now ≡ length r₀.seen.now
  pub alike : length r.alike.now ≡ length r₀.alike.now
