-- `lookup_targets::pass_told` meets its contract.
use Prim.Native.Nat.{◌-◌, ◌≤◌}
use mathlib.Core.Path.{◌≡◌}
use Rattle.lookup.specs.Pass.{Serves}
use Rattle.lookup_targets.specs.Values.{from_glyph}
use Rattle.lookup_targets.proofs.pass_told.Given as goal

abbrev pub invariant-loop-glyph : goal.invariant-loop-glyph
invariant-loop-glyph l =
    (l.initial.glyph ≤ l.glyph) × Serves l.table l.at l.glyph l.cursor × (from_glyph l.table l.glyphs l.kind l.at l.base l.initial.glyph ≡ from_glyph l.table l.glyphs l.kind l.at l.base l.glyph)

abbrev pub decreases-loop-glyph : goal.decreases-loop-glyph
decreases-loop-glyph l = l.glyphs - l.glyph
