-- `write_glyphs::GlyphLookup::same_values` meets its contract.
use Rattle.write_glyphs.proofs.Laws.{lead-same, noted-alike}
use Rattle.lookup_targets.proofs.Laws.{along-noted}
use Rattle.write_glyphs.proofs.GlyphLookup.same_values.Goals as goal

pub returns : goal.returns
returns c =
    let a = c.args in
    let s = a.self.now in
    let k = c.requires in
    let v = c.known_values-led in
    let one = lead-same s.kind s.table.now s.base a.seen.now a.place a.number v.result k.agree.0 v.ensures.1 in
    (v.ensures.0, v.ensures.1, noted-alike s.kind s.table.now s.base a.place v.result a.alike.now _ (along-noted a.place v.result c.note_values.ensures) one k.agree.1)
