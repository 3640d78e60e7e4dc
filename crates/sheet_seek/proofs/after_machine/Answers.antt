-- `sheet_seek::after_machine` meets its contract. The entries and the cells are passed after the classes. Assumes nothing.
use Rattle.sheet_seek.proofs.SideLaws.{cells-passed}
use Rattle.fields.specs.Field.{Bytes}
use native.Mathlib.Omega.{arith}
use Rattle.sheet_seek.proofs.after_machine.Goals as goal

pub returns : goal.returns
returns c =
    let a = c.args in
    let s = a.bytes.now in
    let bytes : Bytes s = λ i. omega (arith, c.type_inv.bytes i) in
    cells-passed s bytes a.at c.entries_at.result c.after_items-cells.result c.after_items.result c.entries_at.ensures c.after_items-cells.ensures c.after_items.ensures
