-- `line_moves::record_for` meets its contract.
use mathlib.Core.Path.{sym, ◌∙◌, subst}
use Rattle.line_moves.specs.Parts.{Small}
use native.Mathlib.Omega.{arith}
use Rattle.table_ask.proofs.Steps.{below_at, spot-found, lookup-sound}
use Rattle.line_moves.proofs.Parts.{record_is, record-limits}
use Rattle.line_moves.proofs.record_for.Goals as goal

pub spot_by-requires : goal.spot_by-requires
spot_by-requires c = (c.requires.looked_up.1, lookup-sound _ _ c.requires.judged _ _ c.requires.looked_up.0)

pub overflow_cast-at : goal.overflow_cast-at
overflow_cast-at c = omega (arith, below_at c.in_ok-at.was c.spot_by.ensures.1)

pub returns-in_err-at : goal.returns-in_err-at
returns-in_err-at c =
    let a = c.args in
    let r = c.from_residual.ensures in
    let e = record_is a.table.now a.count a.direction a.glyph a.class (sym c.in_err-at.was ∙ c.spot_by.ensures.0 ∙ spot-found _ _ _ _ _ c.requires.looked_up.0) in
    rw r (e, tt)

pub returns : goal.returns
returns c =
    let a = c.args in
    let e = c.record_by.ensures ∙ record_is a.table.now a.count a.direction a.glyph a.class (sym c.in_ok-at.was ∙ c.spot_by.ensures.0 ∙ spot-found _ _ _ _ _ c.requires.looked_up.0) in
    (e, subst Small (sym e) (record-limits a.table.now a.count a.direction (λ i. (c.type_inv.table i).fits) c.requires.judged a.glyph a.class))
