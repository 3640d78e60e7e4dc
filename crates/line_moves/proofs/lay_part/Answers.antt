-- `line_moves::lay_part` meets its contract.
use native.Mathlib.Omega.{arith}
use Rattle.std.proofs.lemmas.Int.{ints, to_z-of_z}
use Rattle.line_moves.specs.Parts.{glyph_of}
use Rattle.line_moves.proofs.Parts.{laying}
use Rattle.line_moves.proofs.lay_part.Goals as goal

pub returns : goal.returns
returns c =
    let a = c.args in
    laying (glyph_of a.part) a.place a.sides.now a.factors.now _ _ c.side_number.ensures c.side_number-2.ensures (grind (arith, ints, to_z-of_z)) (grind (arith, ints, to_z-of_z))
