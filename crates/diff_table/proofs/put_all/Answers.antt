-- `diff_table::put_all` meets its contract.
use Rattle.diff_table.proofs.Laws.{both-sides}
use Rattle.diff_table.specs.Sides.{sides_in}
use Rattle.diff_rule.proofs.Stored.{stores-two, stores-other}
use Rattle.diff_table.proofs.put_all.Goals as goal

pub returns : goal.returns
returns c =
    let a = c.args in
    let t = a.one.now in
    let u = a.other.now in
    let h = c.sides_of-horizontal in
    let v = c.sides_of-vertical in
    let p = c.put_side-end in
    let q = c.put_side in
    let l₀ = a.list.now in
    let l₁ = p.new.list in
    let l₂ = q.new.list in
    stores-other l₀ l₂ 0 q.result _ _ (both-sides t u a.glyphs h.result v.result h.ensures.0 v.ensures.0)
    (stores-two (sides_in t u h.result) (sides_in t u v.result) l₀ l₁ l₂ 0 p.result q.result p.ensures.0 q.ensures.0)
