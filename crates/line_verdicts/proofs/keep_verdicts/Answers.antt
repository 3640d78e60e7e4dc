use mathlib.Core.List.{map}
use Rattle.std.proofs.Common.{◌≡◌, None}
use mathlib.Core.Path.{◌∙◌}
use native.Mathlib.Omega.{arith}
use Rattle.meaning.specs.Ask.{side_of}
use Rattle.share.specs.Line.{signed_of, evens, odds}
use Rattle.table.specs.Means.{meaning_of}
use Rattle.line_verdicts.proofs.Laws.{lists-few, lists-none, verdicts-few, verdicts-none}
use Rattle.line_verdicts.proofs.Line.{keeping_start, keeping-most, keeping-next, keeping-end}
use Rattle.line_verdicts.proofs.keep_verdicts.Goals as goal

pub returns-then-is_none : goal.returns-then-is_none
returns-then-is_none c =
    let a = c.args in
    let l = a.line in
    let e : None ≡ c.lookup_in-lists.result = grind arith in
    record {
      counted = verdicts-none (side_of l.shape.direction (meaning_of a.table.now a.count)) 0 l.sizes.now l.glyphs.now a.classes.now (map (signed_of a.shrink) (evens a.moves.now)) (map (signed_of a.shrink) (odds a.moves.now)) (lists-none a.table.now a.count l.shape.direction (e ∙ c.lookup_in-lists.ensures.0));
      tells = λ h. absurd (omega arith);
    }

pub loop-place-init : goal.loop-place-init
loop-place-init c = keeping_start c.args.bits.now c.requires.1

pub overflow_add-total : goal.overflow_add-total
overflow_add-total c =
    let a = c.args in
    let l = a.line in
    let p = c.requires.0 in
    record {
      fits =
          omega (
            arith,
            keeping-most c.loop-place.invariant,
            verdicts-few (side_of l.shape.direction (meaning_of a.table.now a.count)) 0 l.sizes.now l.glyphs.now a.classes.now (map (signed_of a.shrink) (evens a.moves.now)) (map (signed_of a.shrink) (odds a.moves.now)) (lists-few a.table.now a.count l.shape.direction p.accepted),
            p.fits.few,
            c.keep_glyph-kept.ensures.few,
          );
    }

pub loop-place-preserved : goal.loop-place-preserved
loop-place-preserved c =
    let g = c.growth_at in
    let k = c.keep_glyph-kept in
    keeping-next c.loop-place.invariant c.requires.0.fits k.result g.result.0 g.ensures k.ensures c.loop-place-test.true

pub returns : goal.returns
returns c = keeping-end c.loop-place.invariant (omega arith)
