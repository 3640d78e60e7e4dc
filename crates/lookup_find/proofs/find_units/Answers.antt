-- `lookup_find::find_units` meets its contract.
use Rattle.lookup_find.proofs.Laws.{ready-few, ready-clear, find-deleted, find_past, find-units}
use native.Mathlib.Omega.{arith}
use mathlib.Core.Path.{refl}
use Rattle.lookup_find.proofs.find_units.Goals as goal

pub returns-then-number-eq-DELETED : goal.returns-then-number-eq-DELETED
returns-then-number-eq-DELETED c = find-deleted c.requires.searchable _ c.if-number-eq-DELETED.true

pub halved-looked-requires : goal.halved-looked-requires
halved-looked-requires c =
    let s = c.requires.searchable in
    record { near = (s.near, (c.ranges.glyph.fits, omega (arith, s.near, ready-few s (λ i. omega (arith, c.type_inv.table i))))); clear = ready-clear s _ refl }

pub returns-then-glyphs-number : goal.returns-then-glyphs-number
returns-then-glyphs-number c = find_past c.requires.searchable _ _ _ refl c.if-number-eq-DELETED.false c.halved-looked.ensures.0 (omega (arith, c.if-glyphs-number.true))

pub returns : goal.returns
returns c = find-units c.requires.searchable _ _ _ refl c.if-number-eq-DELETED.false c.halved-looked.ensures.0 (omega (arith, c.if-glyphs-number.false)) c.requires.with_units.0 c.requires.with_units.1 c.halved-looked.ensures.1
