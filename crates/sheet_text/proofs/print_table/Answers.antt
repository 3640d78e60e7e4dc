-- `sheet_text::print_table` meets its contract.
use native.Mathlib.Omega.{arith}
use Prim.Native.Nat.{ℕ}
use mathlib.Core.Path.{subst}
use mathlib.Core.List.{List}
use lib.ListN.{length-take}
use Rattle.sheet_text.specs.Stored.{Printed}
use Rattle.sheet_text.proofs.Laws.{wrote-text, wrote-fits, refused-text, text-room}
use Rattle.sheet_text.proofs.print_table.Goals as goal

pub slice_bounds-print_sheet-end : goal.slice_bounds-print_sheet-end
slice_bounds-print_sheet-end c =
    let a = c.args in
    let w = c.write_sheet in
    omega (arith, wrote-fits a.table.now a.count a.room.now c.requires.0 w.result w.new.room w.ensures _ c.in-Ok.is)

pub slice_bounds-print_sheet-end-in-Ok : goal.slice_bounds-print_sheet-end-in-Ok
slice_bounds-print_sheet-end-in-Ok c =
    let a = c.args in
    let w = c.write_sheet in
    let k = c.in-Ok.length in
    omega (arith, length-take k w.new.room, wrote-fits a.table.now a.count a.room.now c.requires.0 w.result w.new.room w.ensures k c.in-Ok.is)

pub print_sheet-requires : goal.print_sheet-requires
print_sheet-requires c =
    let a = c.args in
    let w = c.write_sheet in
    let k = c.in-Ok.length in
    omega (arith, c.requires.1, text-room k w.new.room (wrote-fits a.table.now a.count a.room.now c.requires.0 w.result w.new.room w.ensures k c.in-Ok.is))

pub returns-in-Ok : goal.returns-in-Ok
returns-in-Ok c =
    let a = c.args in
    let w = c.write_sheet in
    let p = c.print_sheet in
    subst (λ (text : List ℕ). Printed text a.out.now p.new.out p.result)
    (wrote-text a.table.now a.count a.room.now c.requires.0 w.result w.new.room w.ensures _ c.in-Ok.is)
    p.ensures

pub returns-in-Err : goal.returns-in-Err
returns-in-Err c =
    let a = c.args in
    let w = c.write_sheet in
    let p = c.print_refusal in
    subst (λ (text : List ℕ). Printed text a.out.now p.new.out p.result)
    (refused-text a.table.now a.count a.room.now c.requires.0 w.result w.new.room w.ensures _ c.in-Err.is)
    p.ensures
