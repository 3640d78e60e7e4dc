-- `write_machine::Classes::class_end` meets its contract.
use native.Mathlib.Omega.{arith}
use Rattle.write_machine.proofs.Laws.{class-after, class-before, class-within}
use Rattle.write_machine.proofs.Classes.class_end.Goals as goal

pub returns-then-past-glyph : goal.returns-then-past-glyph
returns-then-past-glyph c =
    let o = c.args.self.now in
    class-after o.table.now o.here o.classes o.classes_at o.glyphs c.args.glyph c.requires c.if-past-glyph.true

pub returns-then-glyph-first : goal.returns-then-glyph-first
returns-then-glyph-first c =
    let o = c.args.self.now in
    rw c.min.ensures (class-before o.table.now o.here o.classes o.classes_at o.glyphs c.args.glyph c.requires c.if-glyph-first.true)

pub returns : goal.returns
returns c =
    let o = c.args.self.now in
    let w = c.same_count in
    class-within o.table.now o.here o.classes o.classes_at o.glyphs c.args.glyph c.requires
    w.result c.if-glyph-first.false c.if-past-glyph.false w.ensures.0 (omega arith) w.ensures.2 (λ h. w.ensures.3 (omega arith))
