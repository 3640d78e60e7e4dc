-- `sheet_seek::classes_at` meets its contract. The sizes are passed. Assumes nothing.
use Rattle.sheet_seek.proofs.SideLaws.{sizes-passed}
use Rattle.fields.specs.Field.{Bytes}
use native.Mathlib.Omega.{arith}
use Rattle.sheet_seek.proofs.classes_at.Goals as goal

pub returns : goal.returns
returns c =
    let a = c.args in
    let s = a.bytes.now in
    let bytes : Bytes s = λ i. omega (arith, c.type_inv.bytes i) in
    sizes-passed s bytes a.at c.after_items.result c.after_items.ensures
