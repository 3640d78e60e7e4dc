-- `diff_glyphs::put_by` meets its contract.
use Rattle.diff_glyphs.specs.Glyphs.{glyph_differs, LastCompared, SamePairs}
use Rattle.diff_rule.proofs.Filled.{Filled}
use Rattle.diff_stretches.specs.Stretches.{BothTell}
use Prim.Native.Nat.{◌+◌, ◌-◌, ◌*◌, ◌≤◌}
use lib.ListN.{length}
use Rattle.std.specs.Prelude.{IfSome}
use mathlib.Core.Path.{◌≡◌}
use Rattle.diff_glyphs.proofs.put_by.Given as goal

abbrev pub invariant-loop-glyph : goal.invariant-loop-glyph
invariant-loop-glyph l =
    (l.glyph ≤ l.sources.glyphs) × BothTell l.one l.other l.sources l.glyph l.runs × IfSome l.last (LastCompared l.sources.kind l.direction l.one l.other l.block) × SamePairs l.sources.kind l.direction l.one l.other l.same
    × (l.at ≤ l.to + 640 * l.glyph) × Filled (glyph_differs l.direction l.one l.other l.sources) l.initial.list l.list l.to l.at 0 l.glyph × (length l.block ≡ length l.initial.block) × (length l.same ≡ length l.initial.same)

abbrev pub decreases-loop-glyph : goal.decreases-loop-glyph
decreases-loop-glyph l = l.sources.glyphs - l.glyph
