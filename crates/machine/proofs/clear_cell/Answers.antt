-- `machine::clear_cell` meets its contract.
use Rattle.std.proofs.Common.{ℕ, ◌∙◌, ap, get_or, arith}
use Rattle.machine.proofs.Steps.{met-more, met-entry, cell-clear, cell-row}
use Rattle.machine.proofs.clear_cell.Goals as goal

pub returns-then-met-number : goal.returns-then-met-number
returns-then-met-number c = λ here row class k q m.
    let a = c.args in
    let few = c.u8_at-number.ensures.1 in
    let number = c.u8_at-number.ensures.0 ∙ ap (λ (i : ℕ). get_or a.table.now i 0) q in
    let clear = cell-clear a.table.now here row class _ _ q c.u8_at-number.ensures.0 c.if-table-at.false (m.clear _ few c.if-met-number.true) in
    ((clear, omega (arith, m.below _ few c.if-met-number.true, cell-row a.table.now here row class _ number)), met-more _ (omega arith) m)

pub overflow_add-next : goal.overflow_add-next
overflow_add-next c = omega (arith, c.in_ok-next.ensures.0)

pub returns : goal.returns
returns c = λ here row class k q m.
    let a = c.args in
    let number = c.u8_at-number.ensures.0 ∙ ap (λ (i : ℕ). get_or a.table.now i 0) q in
    let w = c.in_ok-next.ensures.1 here k in
    let clear = cell-clear a.table.now here row class _ _ q c.u8_at-number.ensures.0 c.if-table-at.false w.0 in
    ((clear, rw (w.1 ∙ cell-row a.table.now here row class _ number) at c.max.ensures), met-entry a.table.now here row class _ _ _ number m w.0)
