-- `line_moves::lay_parts` meets its contract.
use Rattle.table.specs.Means.{meaning_of}
use Rattle.meaning.specs.Ask.{side_of}
use Rattle.line_rule.specs.Line.{parts_of}
use Rattle.line_moves.proofs.Parts.{Filling, Summing}
use Rattle.line_moves.proofs.lay_parts.Given as goal

abbrev pub invariant-loop-i : goal.invariant-loop-i
invariant-loop-i l =
    let parts = parts_of (side_of l.direction (meaning_of l.table l.count)) l.shrink l.sizes l.glyphs l.classes in
    Filling parts l.i l.sides l.factors × Summing parts l.i l.sums
