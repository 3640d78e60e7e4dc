-- `verdict::breaks_at` meets its contract.
use mathlib.Core.Path.{refl, sym, ◌∙◌}
use lib.ListN.{drop}
use mathlib.Core.Bool.{true, false}
use Rattle.verdict.proofs.Laws.{breaks-is, made, u32-dropped, first-limit}
use Rattle.verdict.specs.Verdict.{below, above, upper}
use Rattle.verdict.proofs.breaks_at.Goals as goal

pub returns-then-is_below : goal.returns-then-is_below
returns-then-is_below c = let a = c.args in
    let d = drop a.at a.table.now in
    breaks-is d a.growth.0 a.size true (above a.growth.0 (upper d) a.size) (made below a.growth.0 a.size c.is_below.ensures (c.limit_at.ensures ∙ first-limit a.table.now a.at) c.if-is_below.true) refl

pub returns-then-is_above : goal.returns-then-is_above
returns-then-is_above c = let a = c.args in
    let d = drop a.at a.table.now in
    breaks-is d a.growth.0 a.size false true (made below a.growth.0 a.size c.is_below.ensures (c.limit_at.ensures ∙ first-limit a.table.now a.at) c.if-is_below.false) (made above a.growth.0 a.size c.is_above.ensures (c.limit_at-2.ensures ∙ sym (u32-dropped a.table.now a.at 4)) c.if-is_above.true)

pub returns : goal.returns
returns c = let a = c.args in
    let d = drop a.at a.table.now in
    breaks-is d a.growth.0 a.size false false (made below a.growth.0 a.size c.is_below.ensures (c.limit_at.ensures ∙ first-limit a.table.now a.at) c.if-is_below.false) (made above a.growth.0 a.size c.is_above.ensures (c.limit_at-2.ensures ∙ sym (u32-dropped a.table.now a.at 4)) c.if-is_above.false)
