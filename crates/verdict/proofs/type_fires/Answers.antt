-- `verdict::type_fires` meets its contract.
use mathlib.Core.Path.{◌∙◌}
use native.Mathlib.Omega.{arith}
use lib.ListN.{drop}
use Rattle.verdict.proofs.Laws.{type-breaks, type-adds, type-substitutes, type-stretches, type-none}
use Rattle.verdict.proofs.type_fires.Goals as goal

pub returns-in-0 : goal.returns-in-0
returns-in-0 c = let a = c.args in
    c.breaks_at.ensures ∙ type-breaks (drop a.at a.table.now) a.growth.0 a.size a.ty c.in-0.is

pub returns-in-1 : goal.returns-in-1
returns-in-1 c = let a = c.args in
    c.adds_at.ensures ∙ type-adds (drop a.at a.table.now) a.growth.0 a.size a.ty c.in-1.is

pub returns-in-2 : goal.returns-in-2
returns-in-2 c = let a = c.args in
    c.substitutes_at.ensures ∙ type-substitutes (drop a.at a.table.now) a.growth.0 a.size a.ty c.in-2.is

pub returns-in-3 : goal.returns-in-3
returns-in-3 c = let a = c.args in
    c.stretches_at.ensures ∙ type-stretches (drop a.at a.table.now) a.growth.0 a.size a.ty (grind arith) (grind arith)

pub returns-in_default : goal.returns-in_default
returns-in_default c = let a = c.args in
    type-none (drop a.at a.table.now) a.growth.0 a.size a.ty (grind arith)
