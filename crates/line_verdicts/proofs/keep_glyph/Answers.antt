-- `line_verdicts::keep_glyph` meets its contract.
use mathlib.Core.Path.{sym, ◌∙◌, subst}
use mathlib.Core.List.{List, []}
use lib.ListN.{get_or}
use Rattle.meaning.specs.Meaning.{Action}
use Rattle.meaning.specs.Ask.{side_of}
use Rattle.std.proofs.Common.{None}
use Rattle.table.specs.Means.{meaning_of}
use Rattle.table_ask.proofs.Steps.{spot-found, lookup-sound}
use Rattle.line_verdicts.specs.Bits.{Keeps}
use Rattle.line_verdicts.proofs.Laws.{list-here, list-there, clear-there}
use Rattle.line_verdicts.proofs.Bits.{keeps-none}
use Rattle.line_verdicts.proofs.keep_glyph.Goals as goal

pub spot_by-requires : goal.spot_by-requires
spot_by-requires c = (c.requires.readable.1, lookup-sound _ _ c.requires.accepted _ _ c.requires.readable.0)

pub returns-in_default : goal.returns-in_default
returns-in_default c =
    let a = c.args in
    keeps-none a.glyph.class a.glyph.growth.0 a.glyph.size (get_or (side_of a.direction (meaning_of a.table.now a.count)).lists a.number [])
    (list-here a.table.now a.count a.direction a.number None (sym c.in_default.is ∙ c.spot_by.ensures.0 ∙ spot-found _ _ _ _ _ c.requires.readable.0)) c.none.ensures

pub keep_list-requires : goal.keep_list-requires
keep_list-requires c =
    let a = c.args in
    clear-there a.table.now a.count a.direction c.requires.accepted a.number c.in-Some.at c.u32_at.result (sym c.in-Some.is ∙ c.spot_by.ensures.0 ∙ spot-found _ _ _ _ _ c.requires.readable.0) c.u32_at.ensures.0

pub returns : goal.returns
returns c =
    let a = c.args in
    subst (λ (l : List Action). Keeps a.glyph.class a.glyph.growth.0 a.glyph.size l c.keep_list.result) (list-there a.table.now a.count a.direction a.number c.in-Some.at c.u32_at.result (sym c.in-Some.is ∙ c.spot_by.ensures.0 ∙ spot-found _ _ _ _ _ c.requires.readable.0) c.u32_at.ensures.0) c.keep_list.ensures
