-- `line_call::work_out` meets its contract.
use Rattle.std.proofs.Common.{◌≡◌, ◌*◌, Err, refl, sym, ap, ◌∙◌, arith, length}
use Rattle.std.proofs.lemmas.Grind.{common_steps}
use Rattle.std.proofs.lemmas.Int.{ints, to_z-of_z}
use Rattle.std.proofs.lemmas.List.{length-replicate}
use Rattle.line_rule.specs.Shape.{line_in}
use Rattle.line_call.specs.Justified.{side_for}
use Rattle.line_call.proofs.Outcomes.{has-moves, counted-bad, counted-short, counted-done}
use Rattle.line_call.proofs.work_out.Goals as goal

pub returns-in_err-tally : goal.returns-in_err-tally
returns-in_err-tally c =
    let a = c.args in
    let l = line_in a.line in
    let x = c.in_err-tally.field-0.0 in
    let b : c.from_residual.result ≡ Err x = grind (arith, common_steps) in
    counted-bad (side_for a.table.now a.count l) a.count l a.room c.share_out.ensures x c.in_err-tally.was b

pub keep_verdicts-verdicts-requires : goal.keep_verdicts-verdicts-requires
keep_verdicts-verdicts-requires c =
    let a = c.args in
    let l = line_in a.line in
    let p = c.requires in
    let o = c.share_out in
    let n = length a.line.glyphs.now in
    let held = o.auto.held ∙ ap length p.1.classes ∙ length-replicate n 0 in
    let moves = o.auto.moves ∙ ap length p.1.moves ∙ length-replicate (2 * n) 0 in
    (has-moves (side_for a.table.now a.count l) a.count l a.room o.ensures c.in_ok-tally.tally c.in_ok-tally.was a.line.sizes.now a.line.glyphs.now p.0 held moves, o.auto.factors ∙ p.1.work)

pub returns-in_err-ruled : goal.returns-in_err-ruled
returns-in_err-ruled c =
    let a = c.args in
    let l = line_in a.line in
    let x = c.in_err-ruled.field-0.0 in
    let b : c.from_residual-in_err-ruled.result ≡ Err x = grind (arith, common_steps) in
    counted-short (side_for a.table.now a.count l) a.count l a.room c.share_out.ensures c.in_ok-tally.tally c.in_ok-tally.was c.keep_verdicts-verdicts.ensures x (sym c.ruled.ensures ∙ c.in_err-ruled.was) b

pub returns : goal.returns
returns c =
    let a = c.args in
    let l = line_in a.line in
    counted-done (side_for a.table.now a.count l) a.count l a.room c.share_out.ensures c.in_ok-tally.tally c.in_ok-tally.was c.keep_verdicts-verdicts.ensures (sym c.ruled.ensures ∙ c.in_ok-ruled.was) refl (grind (arith, ints, to_z-of_z)) refl
