use Rattle.std.proofs.Common.{◌-◌, arith}
use Rattle.line_verdicts.proofs.Laws.{first-inside}
use Rattle.line_verdicts.proofs.Bits.{noting-start, noting-next, noting-end}
use Rattle.line_verdicts.proofs.keep_list.Goals as goal

pub loop-number-init : goal.loop-number-init
loop-number-init c = let a = c.args in
    noting-start a.table.now a.glyph.class a.glyph.growth.0 a.glyph.size a.actions a.first c.none-noted.ensures (omega arith) c.requires

pub fires_here-requires : goal.fires_here-requires
fires_here-requires c = let l = c.loop-number in
    first-inside c.args.table.now (c.args.actions - l.number) l.at l.invariant.list (omega arith)

pub overflow_add-at : goal.overflow_add-at
overflow_add-at c = let l = c.loop-number in
    omega (arith, first-inside c.args.table.now (c.args.actions - l.number) l.at l.invariant.list (omega arith))

pub u32_in-at-requires : goal.u32_in-at-requires
u32_in-at-requires c = let l = c.loop-number in
    omega (arith, first-inside c.args.table.now (c.args.actions - l.number) l.at l.invariant.list (omega arith))

pub overflow_add-at-in-loop-number : goal.overflow_add-at-in-loop-number
overflow_add-at-in-loop-number c = let l = c.loop-number in
    omega (arith, c.u32_in-at.ensures, first-inside c.args.table.now (c.args.actions - l.number) l.at l.invariant.list (omega arith))

pub loop-number-preserved : goal.loop-number-preserved
loop-number-preserved c = let a = c.args in let l = c.loop-number in
    noting-next a.table.now a.glyph.class a.glyph.growth.0 a.glyph.size a.actions a.first l.noted l.number (a.actions - l.number) l.at l.invariant (omega arith)
    c.fires_here.ensures c.bit_of.ensures c.note_action.ensures c.u32_in-at.ensures.0 (omega arith)

pub returns : goal.returns
returns c = let a = c.args in let l = c.loop-number in
    noting-end a.table.now a.glyph.class a.glyph.growth.0 a.glyph.size a.actions a.first l.noted l.number (a.actions - l.number) l.at l.invariant (omega arith)
