use Rattle.std.proofs.Common.{sym, ap, ◌∙◌, not}
use Rattle.class_walk.proofs.Loop.{stands-first, stands-never, turn-stays, turn-moves, turn-stops}
use Rattle.class_walk.proofs.walk_line.Goals as goal

pub loop-spent-init : goal.loop-spent-init
loop-spent-init c = let a = c.args in let p = c.requires.sound_machine in
    stands-first a.table.now a.here a.glyphs.now a.starts a.ends p.0 p.1 c.first_base-base.ensures.0 c.first_base-base.ensures.1
    (c.column_at-column.ensures a.here c.class_table-columns.ensures) c.requires.zeros

pub loop-spent-preserved-then-stays_put : goal.loop-spent-preserved-then-stays_put
loop-spent-preserved-then-stays_put c = let a = c.args in let p = c.requires.sound_machine in let m = c.entry_by-met.ensures in let g = c.current-glyph.ensures in
    turn-stays a.table.now a.here a.glyphs.now a.starts a.ends p.0 p.1 c.loop-spent.invariant c.loop-spent-test.true c.entry_table-entries.ensures.0 m.row.0 m.flags
    g.value g.within c.mark_after-marked.ensures c.give_classes.ensures m.row.1 (sym c.stays_put.ensures ∙ c.if-stays_put.true)

pub loop-spent-preserved : goal.loop-spent-preserved
loop-spent-preserved c = let a = c.args in let p = c.requires.sound_machine in let m = c.entry_by-met.ensures in let g = c.current-glyph.ensures in
    turn-moves a.table.now a.here a.glyphs.now a.starts a.ends p.0 p.1 c.loop-spent.invariant c.loop-spent-test.true c.entry_table-entries.ensures.0 m.row.0 m.flags
    g.value g.within c.mark_after-marked.ensures c.give_classes.ensures m.row.1 (sym c.stays_put.ensures ∙ c.if-stays_put.false) (c.is_none.ensures ∙ ap not c.if-is_none.false) (c.column_at-column-in-loop-spent.ensures a.here c.class_table-columns.ensures)

pub returns-then-is_none : goal.returns-then-is_none
returns-then-is_none c = let a = c.args in let p = c.requires.sound_machine in let m = c.entry_by-met.ensures in let g = c.current-glyph.ensures in
    turn-stops a.table.now a.here a.glyphs.now a.starts a.ends p.0 p.1 c.loop-spent.invariant c.loop-spent-test.true c.entry_table-entries.ensures.0 m.row.0 m.flags
    g.value g.within c.mark_after-marked.ensures c.give_classes.ensures (sym c.stays_put.ensures ∙ c.if-stays_put.false) (c.is_none.ensures ∙ ap not c.if-is_none.true)

pub returns : goal.returns
returns c = let a = c.args in let p = c.requires.sound_machine in
    stands-never a.table.now a.here a.glyphs.now a.starts a.ends p.0 p.1 c.loop-spent.invariant c.loop-spent.classes c.loop-spent-test.false
