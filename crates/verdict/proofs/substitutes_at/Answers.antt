-- `verdict::substitutes_at` meets its contract.
use mathlib.Core.Bool.{true, false}
use mathlib.Core.Path.{◌∙◌}
use lib.ListN.{drop}
use borrow.Author.Rules.{rules}
use Rattle.verdict.proofs.Laws.{no-growth, substitutes-is, made, first-limit}
use Rattle.verdict.specs.Verdict.{below}
use Rattle.verdict.proofs.substitutes_at.Goals as goal

pub returns-then-growth-le0 : goal.returns-then-growth-le0
returns-then-growth-le0 c = let a = c.args in
    no-growth a.growth.0 (search rules) (drop a.at a.table.now) a.size c.if-growth-le0.true

pub returns-then-is_below : goal.returns-then-is_below
returns-then-is_below c = let a = c.args in
    substitutes-is a.growth.0 (search rules) (drop a.at a.table.now) a.size true c.if-growth-le0.false (made below a.growth.0 a.size c.is_below.ensures (c.limit_at.ensures ∙ first-limit a.table.now a.at) c.if-is_below.true)

pub returns : goal.returns
returns c = let a = c.args in
    substitutes-is a.growth.0 (search rules) (drop a.at a.table.now) a.size false c.if-growth-le0.false (made below a.growth.0 a.size c.is_below.ensures (c.limit_at.ensures ∙ first-limit a.table.now a.at) c.if-is_below.false)
