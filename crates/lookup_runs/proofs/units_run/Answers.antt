-- `lookup_runs::units_run` meets its contract.
use Rattle.std.proofs.Common.{ℕ, ◌+◌, ap, arith}
use Rattle.lookup.proofs.Pass.{some_left}
use Rattle.lookup_runs.proofs.Laws.{units-end, unit-follows}
use Rattle.lookup_runs.proofs.units_run.Goals as goal

pub returns-then-cursor-eq0-clause-follows : goal.returns-then-cursor-eq0-clause-follows
returns-then-cursor-eq0-clause-follows c = λ glyph few s.
    let k = c.requires in
    rw c.no_run.ensures (units-end _ _ glyph _ s few _ k.near.1.0 k.with_units.0 k.with_units.1.0 c.if-cursor-eq0.true)

pub returns-clause-follows : goal.returns-clause-follows
returns-clause-follows c = λ glyph few s.
    let k = c.requires in
    unit-follows _ _ glyph _ s few _ k.near.1.0 k.with_units.0 k.with_units.1.0 _ _ (some_left _ c.if-cursor-eq0.false)
    c.first_of.ensures.0 c.unit_place.ensures.0
    _ _ c.unit_place.ensures.1 c.u16_in.ensures.0 (ap (λ (n : ℕ). c.args.cursor.at + n) c.unit_size.ensures.0) (omega (arith, c.unit_size.ensures.1))
