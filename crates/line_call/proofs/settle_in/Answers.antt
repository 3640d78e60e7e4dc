-- `line_call::settle_in` meets its contract.
use Prim.Native.Nat.{ℕ, ◌*◌}
use mathlib.Core.Path.{sym, ap, ◌∙◌}
use lib.ListN.{length, length-replicate}
use Rattle.line_verdicts.proofs.Laws.{lists-few}
use Rattle.line_rule.specs.Shape.{line_in}
use Rattle.line_call.specs.Justified.{side_for}
use Rattle.line_call.proofs.Outcomes.{deliverable}
use Rattle.line_call.proofs.settle_in.Goals as goal

pub deliver-requires : goal.deliver-requires
deliver-requires c =
    let a = c.args in
    let l = line_in a.line in
    let n = length a.line.glyphs.now in
    let p = c.requires in
    let o = c.work_out in
    let held = o.auto.held ∙ ap length p.1.classes ∙ length-replicate n 0 in
    let moves = o.auto.moves ∙ ap length p.1.moves ∙ length-replicate (2 * n) 0 in
    let few = lists-few a.table.now a.count a.line.shape.direction p.0.accepted in
    let b = a.lent.now in (
      deliverable (side_for a.table.now a.count l) a.count l a.room b.classes.now b.before.now b.after.now o.ensures c.in_ok-tally.tally c.in_ok-tally.was p.0.short few (moves ∙ ap (λ (m : ℕ). 2 * m) (sym held)),
      record { classes = p.2.classes ∙ sym held; before = p.2.before ∙ sym held; after = p.2.after ∙ sym held },
    )
