use Rattle.std.proofs.Common.{refl, rules, ◌∙◌}
use Rattle.diff_glyphs.specs.Glyphs.{SamePairs}
use Rattle.diff_glyphs.proofs.Laws.{holds-made, holds_kept, kept_more}
use Rattle.diff_glyphs.proofs.compare_places.Goals.{then-size-eq0, else-size-eq0}
use Rattle.diff_glyphs.proofs.compare_places.Goals as goal

pub returns-then-is_kept : goal.returns-then-is_kept
returns-then-is_kept c =
    let a = c.args in
    let r = c.requires in
    (refl, holds_kept a.kind a.direction a.one.now a.other.now a.block.now a.same.now a.places r.4 r.6 (search rules), r.6)

pub returns-2 : goal.returns-2
returns-2 c =
    let a = c.args in
    let r = c.requires in
    let p = c.put_places-size in
    let same : SamePairs a.kind a.direction a.one.now a.other.now c.if-size-eq0.same = elim c.if-size-eq0.branch [
      | then-size-eq0 w ↦ kept_more a.kind a.direction a.one.now a.other.now a.same.now c.if-size-eq0.same a.places p.result r.6 (w.same-is ∙ w.keep.ensures) w.if-size-eq0.true p.ensures.1
      | else-size-eq0 w ↦ rw w.same-is r.6
    ] in
    (refl, holds-made a.kind a.direction a.one.now a.other.now a.places p.result a.block.now p.new.block r.4 p.ensures, same)
