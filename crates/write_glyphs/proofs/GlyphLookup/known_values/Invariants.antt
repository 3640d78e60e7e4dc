-- `write_glyphs::GlyphLookup::known_values` meets its contract.
use Rattle.write_glyphs.specs.Places.{Lead}
use Prim.Native.Nat.{◌-◌, ◌≤◌}
use Rattle.write_glyphs.proofs.GlyphLookup.known_values.Given as goal

abbrev pub invariant-loop-values : goal.invariant-loop-values
invariant-loop-values l =
    (l.values ≤ l.count) × Lead l.self.kind l.self.table.now l.self.base l.seen l.place l.number l.values

abbrev pub decreases-loop-values : goal.decreases-loop-values
decreases-loop-values l = l.count - l.values
