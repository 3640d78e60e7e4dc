-- `sheet_ask::class_of` meets its contract. The glyph is at or past N, there is no machine, or the class is found in the runs of section 2. Assumes nothing.
use Rattle.std.proofs.Common.{ℕ, ◌%◌, ap, subst, arith}
use Rattle.sheet_seek.specs.LookUp.{ValueIn}
use Rattle.sheet_ask.proofs.MachineLaws.{past-class, no-class, the_class}
use Rattle.sheet_ask.proofs.class_of.Goals as goal

pub returns-then-u32_at-glyph : goal.returns-then-u32_at-glyph
returns-then-u32_at-glyph c = λ m v w.
    let a = c.args in
    past-class a.bytes.now (λ i. omega (arith, c.type_inv.bytes i)) m v w a.direction a.glyph (omega (arith, c.u32_at.ensures.0, c.from-glyph.ensures))

pub returns-in_err-at : goal.returns-in_err-at
returns-in_err-at c = λ m v w.
    let a = c.args in
    let n = c.in_err-at.ensures in
    rw c.from_residual.ensures (no-class a.bytes.now (λ i. omega (arith, c.type_inv.bytes i)) m v w a.direction n.0 n.1 a.glyph n.2)

pub returns : goal.returns
returns c = λ m v w.
    let a = c.args in
    let s = a.bytes.now in
    let h = c.in_ok-at.ensures in
    let f : ValueIn s c.classes_at-runs.result a.glyph c.value_of.result =
    subst (λ (g : ℕ). ValueIn s c.classes_at-runs.result g c.value_of.result) c.from-glyph.ensures c.value_of.ensures in
    the_class s (λ i. omega (arith, c.type_inv.bytes i)) m v w a.direction c.in_ok-at.at h.0 c.classes_at-runs.result c.classes_at-runs.ensures a.glyph _ c.value_of.result
    (omega (arith, c.u32_at.ensures.0, c.from-glyph.ensures)) h.1 f (ap (λ (k : ℕ). k % 256) c.unwrap_or-class.ensures)
