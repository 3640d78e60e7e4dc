use Rattle.std.proofs.Common.{◌+◌, ◌-◌, ◌*◌, [], ◌∷◌, get_or, arith, refl, sym, ap, ◌∙◌}
use Rattle.std.proofs.lemmas.List.Edits.{sets}
use Rattle.fields.specs.Stores.{put_next}
use Rattle.diff_rule.specs.Again.{again}
use Rattle.diff_rule.proofs.Again.{again-next, again-none}
use Rattle.diff_rule.proofs.put_again.Goals as goal

pub loop-k-preserved : goal.loop-k-preserved
loop-k-preserved c =
    let x = c.args in
    let l = c.loop-k in
    let b = x.block.now in
    let p = 5 * l.k in
    put_next (get_or b p 0 ∷ get_or b (p + 1) 0 ∷ get_or b (p + 2) 0 ∷ x.glyph ∷ get_or b (p + 4) 0 ∷ []) (again (x.count - (l.k + 1)) b x.glyph (5 * (l.k + 1))) _ l.list c.put_numbers.new.list _
    (x.to + p) (x.to + 5 * (l.k + 1)) (again-next b x.glyph x.count l.k (omega arith)) (omega arith) c.put_numbers.ensures l.invariant

pub returns : goal.returns
returns c =
    let x = c.args in
    let l = c.loop-k in
    (ap (sets l.list (x.to + 5 * l.k)) (sym (again-none x.block.now x.glyph (x.count - l.k) (5 * l.k) (omega arith))) ∙ l.invariant, refl)
