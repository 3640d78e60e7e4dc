-- `lookup_find::find_range` meets its contract.
use Rattle.lookup_find.proofs.Laws.{ready-few, ready-clear, find-units}
use Rattle.lookup.proofs.Laws.{value_none}
use native.Mathlib.Omega.{arith}
use mathlib.Core.Path.{sym}
use Rattle.lookup_find.proofs.find_range.Goals as goal

pub returns-then-glyphs-number : goal.returns-then-glyphs-number
returns-then-glyphs-number c = let a = c.args in sym (value_none a.table.now a.glyphs a.at a.glyph (omega (arith, c.if-glyphs-number.true)))

pub halved-looked-requires : goal.halved-looked-requires
halved-looked-requires c =
    let s = c.requires.0 in
    record { near = (s.near, (c.ranges.glyph.fits, omega (arith, s.near, ready-few s (λ i. omega (arith, c.type_inv.table i))))); clear = ready-clear s 2 (sym c.requires.1) }

pub returns : goal.returns
returns c =
    let s = c.requires.0 in
    (find-units s _ 2 _ (sym c.requires.1) (λ e. omega (arith, e, s.few, c.if-glyphs-number.false)) c.halved-looked.ensures.0 (omega (arith, c.if-glyphs-number.false)) (λ e. omega (arith, e)) (λ e. omega (arith, e)) c.halved-looked.ensures.1).1
