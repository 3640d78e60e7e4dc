-- `line_verdicts::keep_list` meets its contract.
use Rattle.std.proofs.Common.{◌-◌}
use Rattle.line_verdicts.proofs.Bits.{Noting}
use Rattle.line_verdicts.proofs.keep_list.Given as goal

abbrev pub invariant-loop-number : goal.invariant-loop-number
invariant-loop-number l = Noting l.table l.glyph.class l.glyph.growth.0 l.glyph.size l.actions l.first l.noted l.number (l.actions - l.number) l.at
