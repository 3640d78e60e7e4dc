-- `sheet_seek::entries_at` meets its contract. The runs of classes are passed after the sizes. Assumes nothing.
use Rattle.sheet_seek.proofs.SideLaws.{classes-passed}
use Rattle.fields.specs.Field.{Bytes}
use native.Mathlib.Omega.{arith}
use Rattle.sheet_seek.proofs.entries_at.Goals as goal

pub returns : goal.returns
returns c =
    let a = c.args in
    let s = a.bytes.now in
    let bytes : Bytes s = λ i. omega (arith, c.type_inv.bytes i) in
    classes-passed s bytes a.at c.classes_at.result c.after_items.result c.classes_at.ensures c.after_items.ensures
