-- `line_verdicts::fires_here` meets its contract.
use Rattle.std.proofs.Common.{sym, ◌∙◌}
use Rattle.line_verdicts.proofs.Laws.{other-class, own-class}
use Rattle.line_verdicts.proofs.fires_here.Goals as goal

pub returns-then-u16_in-from : goal.returns-then-u16_in-from
returns-then-u16_in-from c = let a = c.args in
    other-class a.table.now a.at a.glyph.class a.glyph.growth.0 a.glyph.size (λ e. c.if-u16_in-from.true (c.u16_in.ensures.0 ∙ e ∙ sym c.from.ensures))

pub returns : goal.returns
returns c = let a = c.args in
    c.own_fires.ensures ∙ own-class a.table.now a.at a.glyph.class a.glyph.growth.0 a.glyph.size (sym c.u16_in.ensures.0 ∙ c.if-u16_in-from.false ∙ c.from.ensures)
