use Rattle.diff_clusters.proofs.Laws.{put_all, put-more, put-end}
use Rattle.diff_rule.specs.Order.{all_numbers}
use Rattle.fields.specs.Stores.{put-length}
use native.Mathlib.Omega.{arith}
use Rattle.std.proofs.Common.{rules}
use mathlib.Core.Path.{refl}
use Rattle.diff_clusters.proofs.put_records.Goals as goal

pub loop-step-init : goal.loop-step-init
loop-step-init c =
    let x = c.args in
    let p = c.requires in
    let m = c.pairs_in-ones in
    let n = c.pairs_in-others in (
      omega (arith, m.ensures.1, m.ensures.2),
      omega (arith, n.ensures.1, n.ensures.2),
      omega (arith, m.ensures.2, n.ensures.2),
      put_all x.one.now x.other.now x.first x.second m.result n.result x.direction x.glyph x.list.now x.to m.ensures.0 n.ensures.0 p.0 p.1,
    )

pub loop-step-preserved : goal.loop-step-preserved
loop-step-preserved c =
    let x = c.args in
    let l = c.loop-step in
    let s = c.in-Some in
    let p = c.put_noted-end in (
      omega (arith, l.invariant.0, s.ensures.step.near),
      omega (arith, l.invariant.1, s.ensures.step.beside),
      omega (arith, l.invariant.2, s.ensures.step.fewer, p.ensures.1),
      put-more x.one.now x.other.now x.first x.second l.ones l.others x.direction x.glyph x.list.now x.to l.list l.end s.step p.new.list p.result l.invariant.3 s.ensures.step p.ensures.0,
    )

pub shape_of-list : goal.shape_of-list
shape_of-list c =
    let x = c.args in
    let l = c.loop-step in
    let w = l.invariant.3 in
    put-length (all_numbers (w.done x.direction x.glyph)) x.list.now l.list x.to _ w.stores.0 refl

pub returns : goal.returns
returns c =
    let x = c.args in
    let l = c.loop-step in (
      put-end x.one.now x.other.now x.first x.second l.ones l.others x.direction x.glyph x.list.now x.to l.list l.end l.invariant.3 (omega (arith, c.next_class.ensures.end (search rules))),
      omega (arith, l.invariant.2),
    )
