-- `diff_table::put_side` meets its contract.
use Rattle.diff_table.proofs.Laws.{side-parts}
use Rattle.diff_table.specs.Sides.{machines_in, glyphs_in}
use Rattle.diff_rule.proofs.Stored.{stores-two, stores-other}
use Rattle.diff_rule.specs.declared.Difference.{Difference}
use Rattle.lookup_targets.specs.declared.Kind.TheVariants.{Clusters, Lists}
use native.Mathlib.Omega.{arith}
use mathlib.Core.List.{List, ◌++◌}
use Rattle.diff_table.proofs.put_side.Goals as goal

pub returns : goal.returns
returns c =
    let a = c.args in
    let t = a.one.now in
    let u = a.other.now in
    let m = c.put_side_machines-machines in
    let w = c.put_kind-widths in
    let l = c.put_kind in
    let l₀ = a.list.now in
    let l₁ = m.new.list in
    let l₂ = w.new.list in
    let l₃ = l.new.list in
    let xs : List Difference = machines_in t u a.sides in
    let ys : List Difference = glyphs_in t u a.sides Clusters in
    let zs : List Difference = glyphs_in t u a.sides Lists in
    let glyphs = stores-two ys zs l₁ l₂ l₃ m.result w.result l.result w.ensures.0 l.ensures.0 in
    let all = stores-two xs (ys ++ zs) l₀ l₁ l₃ a.to m.result l.result m.ensures.0 glyphs in
    (stores-other l₀ l₃ a.to l.result _ _ (side-parts t u a.sides) all, omega (arith, m.ensures.1, w.ensures.1, l.ensures.1))
