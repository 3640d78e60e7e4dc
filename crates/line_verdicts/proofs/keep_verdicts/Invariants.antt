-- `line_verdicts::keep_verdicts` meets its contract.
use Rattle.meaning.specs.Ask.{side_of}
use Rattle.table.specs.Means.{meaning_of}
use Rattle.line_verdicts.proofs.Line.{Keeping}
use Rattle.line_verdicts.proofs.keep_verdicts.Given as goal

abbrev pub invariant-loop-place : goal.invariant-loop-place
invariant-loop-place l =
    Keeping (side_of l.direction (meaning_of l.table l.count)) l.shrink l.sizes l.classes l.moves l.glyphs l.bits l.total l.place
