use Rattle.std.proofs.Common.{sym, ap, ◌∙◌, arith}
use Rattle.types.specs.declared.Entry.{Entry}
use Rattle.meaning.specs.Ask.{entry}
use Rattle.answers.specs.Says.{given}
use Rattle.table_ask.proofs.Asked.{no_cell_lem, row-past, column-past, cell-is}
use Rattle.table_ask.proofs.cell_of.Goals as goal

pub returns-then-offset-eq0 : goal.returns-then-offset-eq0
returns-then-offset-eq0 c = ap given (sym (no_cell_lem _ _ _ _ c.machine_in-offset.ensures.0 _ _ c.if-offset-eq0.true))

pub returns-then-row_count-row : goal.returns-then-row_count-row
returns-then-row_count-row c = ap given (sym (row-past _ _ _ _ c.machine_in-offset.ensures.0 _ _ c.if-offset-eq0.false (omega (arith, c.row_count.ensures, c.if-row_count-row.true))))

pub returns-then-class_count-class : goal.returns-then-class_count-class
returns-then-class_count-class c = ap given (sym (column-past _ _ _ _ c.machine_in-offset.ensures.0 _ _ c.if-offset-eq0.false (omega (arith, c.class_count.ensures.0, c.if-class_count-class.true))))

pub returns : goal.returns
returns c = ap (λ (e : Entry). given (entry e)) c.cell.ensures ∙ ap given (sym (cell-is _ _ _ _ c.machine_in-offset.ensures.0 _ _ c.if-offset-eq0.false (omega (arith, c.row_count.ensures, c.if-row_count-row.false)) (omega (arith, c.class_count.ensures.0, c.if-class_count-class.false))))
