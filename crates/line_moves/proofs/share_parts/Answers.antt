-- `line_moves::share_parts` meets its contract.
use Prim.Native.Nat.{ℕ}
use mathlib.Core.Path.{refl, sym, ap, ◌∙◌}
use native.Mathlib.Omega.{arith}
use Prim.Native.Nat.{◌*◌}
use mathlib.Core.Path.{◌≡◌}
use lib.ListN.{length, replicate}
use lib.IntN.{nat_abs}
use Rattle.line_rule.specs.Line.{goes_back, parts_of}
use Rattle.line_rule.specs.Shape.{line_in}
use Rattle.meaning.specs.Ask.{side_of}
use Rattle.table.specs.Means.{meaning_of}
use Rattle.share.specs.Line.{signed_of}
use Rattle.line_moves.proofs.Sharing.{laid-moves, laid-left, test-sides, test-line, line-sides, left-small, shared-left, shared-over, by_sign, size-read, widened_read}
use Rattle.line_moves.proofs.share_parts.Goals as goal

pub returns-then-not-totals_fit : goal.returns-then-not-totals_fit
returns-then-not-totals_fit c =
    let a = c.args in
    by_sign a.gap.0 (side_of a.line.shape.direction (meaning_of a.table.now a.count)) (line_in a.line) a.classes.now c.shrinks-shrink.ensures refl refl
    (shared-over c.shrinks-shrink.result (goes_back a.line.shape.edition) (nat_abs a.gap.0) _ a.moves.now (test-line c.lay_parts-totals.ensures c.totals_fit.ensures ∙ c.if-not-totals_fit.true))

pub share_line-left-requires-clause-over_zeros : goal.share_line-left-requires-clause-over_zeros
share_line-left-requires-clause-over_zeros c =
    let a = c.args in
    let p = c.requires in
    let n = c.lay_parts-totals.new in
    let e : length n.sides ≡ 2 * length a.line.glyphs.now = omega (arith, p.room.0) in
    (line-sides c.shrinks-shrink.result a.line.shape.direction (λ i. (c.type_inv.table i).fits) p.sharable.0 c.lay_parts-totals.ensures.laid e (omega (arith, p.room.1)), p.room.2 ∙ ap (λ (n : ℕ). replicate {A = ℕ} n 0) (sym e))

pub share_line-left-requires-clause-gap_bound : goal.share_line-left-requires-clause-gap_bound
share_line-left-requires-clause-gap_bound c =
    let p = c.requires in
    let w = c.lay_parts-totals.ensures in
    (omega (arith, size-read c.args.gap.0 p.sharable.1 c.unsigned_abs.ensures.value, p.sharable.1), w.totals, test-sides w c.totals_fit.ensures ∙ c.if-not-totals_fit.false)

pub signed-requires : goal.signed-requires
signed-requires c =
    let a = c.args in
    let n = c.unsigned_abs.result in
    let back = c.goes_back-back.result in
    let e = c.share_line-left.ensures.0 ∙ laid-left c.lay_parts-totals.ensures.laid back n in
    omega (arith, e, size-read a.gap.0 c.requires.sharable.1 c.unsigned_abs.ensures.value, c.requires.sharable.1, left-small back (parts_of (side_of a.line.shape.direction (meaning_of a.table.now a.count)) c.shrinks-shrink.result a.line.sizes.now a.line.glyphs.now a.classes.now) n)

pub returns : goal.returns
returns c =
    let a = c.args in
    let k = c.shrinks-shrink.result in
    let n = c.unsigned_abs.result in
    let back = c.goes_back-back.result in
    let w = c.lay_parts-totals.ensures in
    let e = c.share_line-left.ensures in
    by_sign a.gap.0 (side_of a.line.shape.direction (meaning_of a.table.now a.count)) (line_in a.line) a.classes.now c.shrinks-shrink.ensures c.goes_back-back.ensures
    (size-read a.gap.0 c.requires.sharable.1 c.unsigned_abs.ensures.value)
    (shared-left k back n _ a.moves.now (test-line w c.totals_fit.ensures ∙ c.if-not-totals_fit.false)
    (widened_read c.signed.result c.signed.type_inv c.from.ensures ∙ c.signed.ensures ∙ ap (signed_of k) (e.0 ∙ laid-left w.laid back n)) (e.1 ∙ laid-moves w.laid back n))
