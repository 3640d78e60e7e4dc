-- `sheet_ask::cell_of` meets its contract. There is no machine, or it has no such row or class, or the cell is read. Assumes nothing.
use Rattle.std.proofs.Common.{ℕ, ◌+◌, ◌*◌, ap₂, arith}
use Rattle.sheet_ask.proofs.MachineLaws.{no_cell_lem, past_row, past-column, the-cell}
use Rattle.sheet_ask.proofs.cell_of.Goals as goal

pub returns-in_err-at : goal.returns-in_err-at
returns-in_err-at c = λ m v w.
    let a = c.args in
    let n = c.in_err-at.ensures in
    rw c.from_residual.ensures (no_cell_lem a.bytes.now (λ i. omega (arith, c.type_inv.bytes i)) m v w a.direction n.0 n.1 a.row a.class n.2)

pub returns-then-u32_at-row : goal.returns-then-u32_at-row
returns-then-u32_at-row c = λ m v w.
    let a = c.args in
    past_row a.bytes.now (λ i. omega (arith, c.type_inv.bytes i)) m v w a.direction c.in_ok-at.at c.in_ok-at.ensures.0 a.row a.class
    (omega (arith, c.u32_at.ensures.0, c.from-row.ensures))

pub returns-then-classes-class : goal.returns-then-classes-class
returns-then-classes-class c = λ m v w.
    let a = c.args in
    past-column a.bytes.now (λ i. omega (arith, c.type_inv.bytes i)) m v w a.direction c.in_ok-at.at c.in_ok-at.ensures.0 a.row a.class
    (omega (arith, c.u32_at-classes.ensures.0, c.from-class.ensures))

pub returns : goal.returns
returns c = λ m v w.
    let a = c.args in
    let h = c.in_ok-at.ensures in
    the-cell a.bytes.now (λ i. omega (arith, c.type_inv.bytes i)) m v w a.direction c.in_ok-at.at h.0 c.entries_at-entries.result a.row a.class c.u32_at-classes.result _
    c.entries_at-entries.ensures h.1 (omega (arith, c.u32_at.ensures.0, c.from-row.ensures)) (omega (arith, c.u32_at-classes.ensures.0, c.from-class.ensures))
    c.u32_at-classes.ensures.0 (ap₂ (λ (r k : ℕ). r * c.u32_at-classes.result + k) c.from-row.ensures c.from-class.ensures) c.cell_in.result c.cell_in.ensures
