-- `sheet_seek::side_at` meets its contract. Vertical begins where horizontal ends. Assumes nothing.
use Rattle.sheet_seek.proofs.SideLaws.{horizontal-passed, vertical-passed}
use Rattle.sheet_seek.specs.Passes.{Passes, side_on}
use Rattle.meaning.specs.Sheet.{write}
use Rattle.meaning.specs.Limits.{Valid}
use Rattle.types.specs.declared.Direction.{Direction}
use Rattle.fields.specs.Field.{Bytes}
use mathlib.Core.Path.{sym, subst}
use native.Mathlib.Omega.{arith}
use Rattle.sheet_seek.proofs.side_at.Goals as goal

pub returns-in-Horizontal : goal.returns-in-Horizontal
returns-in-Horizontal c =
    let s = c.args.bytes.now in
    let bytes : Bytes s = λ i. omega (arith, c.type_inv.bytes i) in
    subst (λ (d : Direction). Passes write (side_on d) Valid s 0 4) (sym c.in-Horizontal.is) (horizontal-passed s bytes)

pub returns-in-Vertical : goal.returns-in-Vertical
returns-in-Vertical c =
    let s = c.args.bytes.now in
    let bytes : Bytes s = λ i. omega (arith, c.type_inv.bytes i) in
    subst (λ (d : Direction). Passes write (side_on d) Valid s 0 c.after_pool.result) (sym c.in-Vertical.is)
    (vertical-passed s bytes c.after_machine-clusters.result c.after_pool-lists.result c.after_pool.result
    c.after_machine-clusters.ensures c.after_pool-lists.ensures c.after_pool.ensures)
