-- `machine::clear_row` meets its contract.
use Rattle.std.proofs.Common.{refl, arith}
use Rattle.machine.proofs.Steps.{entry-leads, entry-clear}
use Rattle.machine.proofs.clear_row.Goals as goal

pub returns : goal.returns
returns c =
    let a = c.args in
    let to = c.u16_at-to.ensures.0 in (
      omega arith,
      λ here k. (
        entry-clear a.table.now here a.number _ _ a.grid k refl to c.if-table-at.false c.if-to-grid.false c.if-past-grid-ne0.false c.if-row-gt255.false,
        entry-leads a.table.now here a.number _ _ a.grid k refl to,
      ),
    )
