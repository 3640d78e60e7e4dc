-- `line_call::share_out` meets its contract.
use Rattle.std.proofs.Common.{◌≡◌, Some, None, Err, sym, ap, ◌∙◌, arith, length}
use Rattle.std.proofs.lemmas.Grind.{common_steps}
use Rattle.fields.specs.declared.Refusal.TheVariants.{UnknownGlyph}
use Rattle.fields.specs.Faults.{rule}
use Rattle.fields.proofs.Laws.{rule-holds}
use Rattle.line_moves.proofs.Walks.{walk-ended, walk-endless}
use Rattle.line_rule.specs.Shape.{line_in}
use Rattle.line_call.specs.Justified.{side_for}
use Rattle.line_input.proofs.Tests.{known-each}
use Rattle.line_call.proofs.Work.{gapped, gap-none, bad-advances, bad-glyph, bad-walk, work-over, narrow-fits, narrowed, work-done}
use Rattle.line_call.proofs.share_out.Goals as goal

pub returns-in_err-gap : goal.returns-in_err-gap
returns-in_err-gap c =
    let a = c.args in
    let l = line_in a.line in
    let b : c.from_residual.result ≡ Err c.barred.result = grind (arith, common_steps) in
    let g : c.gap_of.result ≡ None = grind (arith, common_steps) in
    bad-advances (side_for a.table.now a.count l) a.count l (b ∙ ap Err c.barred.ensures) (gap-none l (sym c.gap_of.ensures ∙ g))

pub returns-in_err-ruled : goal.returns-in_err-ruled
returns-in_err-ruled c =
    let a = c.args in
    let l = line_in a.line in
    let x = c.in_err-ruled.field-0.0 in
    let b : c.from_residual-in_err-ruled.result ≡ Err x = grind (arith, common_steps) in
    let h : c.gap_of.result ≡ Some c.in_ok-gap.gap = grind (arith, common_steps) in
    let g = gapped l c.in_ok-gap.gap (sym c.gap_of.ensures ∙ h) in
    bad-glyph (side_for a.table.now a.count l) a.count l g.good x (ap (λ k. rule k UnknownGlyph 0) (sym c.all_known-known.ensures) ∙ sym c.ruled.ensures ∙ c.in_err-ruled.was) b

pub line_walk-walked-requires-clause-known : goal.line_walk-walked-requires-clause-known
line_walk-walked-requires-clause-known c =
    let a = c.args in
    let k = rule-holds c.all_known-known.result UnknownGlyph 0 (sym c.ruled.ensures ∙ c.in_ok-ruled.was) in
    known-each a.count a.line.glyphs.now (sym c.all_known-known.ensures ∙ k)

pub returns-in_err-entries : goal.returns-in_err-entries
returns-in_err-entries c =
    let a = c.args in
    let l = line_in a.line in
    let s = side_for a.table.now a.count l in
    let h : c.gap_of.result ≡ Some c.in_ok-gap.gap = grind (arith, common_steps) in
    let g = gapped l c.in_ok-gap.gap (sym c.gap_of.ensures ∙ h) in
    let k = sym c.all_known-known.ensures ∙ rule-holds c.all_known-known.result UnknownGlyph 0 (sym c.ruled.ensures ∙ c.in_ok-ruled.was) in
    let b : c.from_residual-in_err-entries.result ≡ Err c.barred-2.result = grind (arith, common_steps) in
    let e : c.line_walk-walked.result ≡ None = grind (arith, common_steps) in
    bad-walk s a.count l g.good k (b ∙ ap Err c.barred-2.ensures) (walk-endless s.machine l c.line_walk-walked.new.classes c.line_walk-walked.ensures e)

pub share_glyphs-shared-requires-clause-sharable : goal.share_glyphs-shared-requires-clause-sharable
share_glyphs-shared-requires-clause-sharable c =
    let a = c.args in
    let l = line_in a.line in
    let s = side_for a.table.now a.count l in
    let p = c.requires in
    let h : c.gap_of.result ≡ Some c.in_ok-gap.gap = grind (arith, common_steps) in
    let g = gapped l c.in_ok-gap.gap (sym c.gap_of.ensures ∙ h) in
    let e : c.line_walk-walked.result ≡ Some c.in_ok-entries.entries = grind (arith, common_steps) in
    let w = walk-ended s.machine l c.line_walk-walked.new.classes c.line_walk-walked.ensures c.in_ok-entries.entries e in
    (record { accepted = p.0.accepted; short = p.0.short; sizes = p.0.sizes; small = p.0.small; classes = ap length w.classes ∙ w.each }, g.small)

pub returns-in_err-left : goal.returns-in_err-left
returns-in_err-left c =
    let a = c.args in
    let l = line_in a.line in
    let s = side_for a.table.now a.count l in
    let h : c.gap_of.result ≡ Some c.in_ok-gap.gap = grind (arith, common_steps) in
    let g = gapped l c.in_ok-gap.gap (sym c.gap_of.ensures ∙ h) in
    let k = sym c.all_known-known.ensures ∙ rule-holds c.all_known-known.result UnknownGlyph 0 (sym c.ruled.ensures ∙ c.in_ok-ruled.was) in
    let e : c.line_walk-walked.result ≡ Some c.in_ok-entries.entries = grind (arith, common_steps) in
    let w = walk-ended s.machine l c.line_walk-walked.new.classes c.line_walk-walked.ensures c.in_ok-entries.entries e in
    let b : c.from_residual-in_err-left.result ≡ Err c.barred-3.result = grind (arith, common_steps) in
    let f : c.share_glyphs-shared.result ≡ None = grind (arith, common_steps) in
    work-over s a.count l g k w.stops w.classes c.share_glyphs-shared.ensures (b ∙ ap Err c.barred-3.ensures) f

pub overflow_cast-result : goal.overflow_cast-result
overflow_cast-result c =
    let a = c.args in
    let l = line_in a.line in
    let s = side_for a.table.now a.count l in
    let h : c.gap_of.result ≡ Some c.in_ok-gap.gap = grind (arith, common_steps) in
    let g = gapped l c.in_ok-gap.gap (sym c.gap_of.ensures ∙ h) in
    let k = sym c.all_known-known.ensures ∙ rule-holds c.all_known-known.result UnknownGlyph 0 (sym c.ruled.ensures ∙ c.in_ok-ruled.was) in
    let e : c.line_walk-walked.result ≡ Some c.in_ok-entries.entries = grind (arith, common_steps) in
    let w = walk-ended s.machine l c.line_walk-walked.new.classes c.line_walk-walked.ensures c.in_ok-entries.entries e in
    let u = c.in_ok-left.left in
    let f : c.share_glyphs-shared.result ≡ Some u = grind (arith, common_steps) in
    narrow-fits s a.count l g k w.stops w.classes c.share_glyphs-shared.ensures u f

pub returns : goal.returns
returns c =
    let a = c.args in
    let l = line_in a.line in
    let s = side_for a.table.now a.count l in
    let h : c.gap_of.result ≡ Some c.in_ok-gap.gap = grind (arith, common_steps) in
    let g = gapped l c.in_ok-gap.gap (sym c.gap_of.ensures ∙ h) in
    let k = sym c.all_known-known.ensures ∙ rule-holds c.all_known-known.result UnknownGlyph 0 (sym c.ruled.ensures ∙ c.in_ok-ruled.was) in
    let e : c.line_walk-walked.result ≡ Some c.in_ok-entries.entries = grind (arith, common_steps) in
    let w = walk-ended s.machine l c.line_walk-walked.new.classes c.line_walk-walked.ensures c.in_ok-entries.entries e in
    let u = c.in_ok-left.left in
    let f : c.share_glyphs-shared.result ≡ Some u = grind (arith, common_steps) in
    let o = c.share_glyphs-shared.ensures in
    work-done s a.count l g k w.stops w.classes o u f c.shrinks.ensures (narrowed s a.count l g k w.stops w.classes o u f) w.count
