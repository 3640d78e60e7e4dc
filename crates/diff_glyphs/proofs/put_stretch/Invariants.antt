use Rattle.std.proofs.Common.{◌≡◌, ◌+◌, ◌-◌, ◌*◌}
use Rattle.std.proofs.lemmas.List.Edits.{sets}
use Rattle.diff_rule.specs.Again.{again_through}
use Rattle.diff_glyphs.proofs.put_stretch.Given as goal

abbrev pub invariant-loop-g : goal.invariant-loop-g
invariant-loop-g l =
    (l.at ≡ l.to + (l.g - l.glyph) * (5 * l.count))
    × (sets l.list l.at (again_through l.count l.block (l.end - l.g) l.g) ≡ sets l.initial.list l.to (again_through l.count l.block (l.end - l.glyph) l.glyph))
