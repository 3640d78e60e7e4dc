-- `lookup_targets::targets_fault` meets its contract.
use Rattle.lookup.specs.Pass.{Serves}
use Rattle.fields.specs.Walk.{each}
use Prim.Native.Nat.{◌+◌, ◌-◌}
use Rattle.lookup_targets.specs.Values.{target_fault, Judged, Ahead}
use mathlib.Core.Path.{◌≡◌}
use Rattle.lookup_targets.proofs.targets_fault.Given as goal

abbrev pub invariant-loop-glyph : goal.invariant-loop-glyph
invariant-loop-glyph l =
    (each (target_fault l.table l.glyphs l.kind l.at l.base) (λ g. g + 1) l.glyphs 0 ≡ each (target_fault l.table l.glyphs l.kind l.at l.base) (λ g. g + 1) (l.glyphs - l.glyph) l.glyph)
    × Serves l.table l.at l.glyph l.cursor
    × (Judged l.table l.glyphs l.judged × Ahead l.table l.glyphs l.kind l.base l.ahead)

abbrev pub decreases-loop-glyph : goal.decreases-loop-glyph
decreases-loop-glyph l = l.glyphs - l.glyph
