-- `sheet_ask::sizes_of` meets its contract. There is no machine, or its sizes stand in section 1. Assumes nothing.
use Rattle.std.proofs.Common.{ℕ, ◌%◌, ◌^◌, ◌∙◌, ap, arith}
use Rattle.sheet_ask.proofs.MachineLaws.{no-sizes, the_sizes}
use Rattle.sheet_ask.proofs.sizes_of.Goals as goal

pub returns-in_err-at : goal.returns-in_err-at
returns-in_err-at c = λ m v w.
    let a = c.args in
    let n = c.in_err-at.ensures in
    rw c.from_residual.ensures (no-sizes a.bytes.now (λ i. omega (arith, c.type_inv.bytes i)) m v w a.direction n.0 n.1 n.2)

pub returns : goal.returns
returns c = λ m v w.
    let a = c.args in
    let h = c.in_ok-at.ensures in
    the_sizes a.bytes.now (λ i. omega (arith, c.type_inv.bytes i)) m v w a.direction c.in_ok-at.at h.0 h.1 c.narrow.result c.narrow-2.result
    (c.narrow.ensures ∙ ap (λ (k : ℕ). k % 2 ^ 16) c.u32_at-rows.ensures.0) (c.narrow-2.ensures ∙ ap (λ (k : ℕ). k % 2 ^ 16) c.u32_at-classes.ensures.0)
