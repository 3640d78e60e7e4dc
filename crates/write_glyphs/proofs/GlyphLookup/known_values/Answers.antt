use Rattle.write_glyphs.proofs.Laws.{carries-here, lead-more, lead-alike}
use native.Mathlib.Omega.{arith}
use mathlib.Core.Path.{refl}
use Rattle.write_glyphs.proofs.GlyphLookup.known_values.Goals as goal

pub loop-values-preserved : goal.loop-values-preserved
loop-values-preserved c =
    let a = c.args in
    let s = a.self.now in
    let t = s.table.now in
    let l = c.loop-values in
    let n = c.min-values in (
      omega arith,
      lead-more s.kind t s.base a.seen.now a.place a.number l.values n.result _ refl l.invariant.1
          (lead-alike s.kind t s.base a.seen.now a.alike.now _ a.number n.result c.requires.one_item (carries-here s.kind t a.seen.now _ a.number c.leads.result c.if-leads.true c.leads.ensures)
          (omega arith)),
    )
