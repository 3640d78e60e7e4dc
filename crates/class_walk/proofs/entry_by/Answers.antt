-- `class_walk::entry_by` meets its contract. Assumes nothing.
use Prim.Native.Nat.{ℕ, ◌+◌, ◌*◌, ◌/◌, ◌%◌}
use mathlib.Core.Path.{ap, ◌∙◌}
use native.Mathlib.Omega.{arith}
use Rattle.fields.specs.Field.{u16_at}
use Rattle.class_walk.proofs.Loop.{entry-fields}
use Rattle.class_walk.proofs.entry_by.Goals as goal

pub returns : goal.returns
returns c =
    let a = c.args in
    let e = c.u8_at.ensures.0 in
    let q = c.u32_at-entry.ensures.0 in
    let h = entry-fields a.table.now (a.entries + 4 * c.u8_at.result) (λ i. (c.type_inv.table i).fits) in record {
      row = (
        ap (λ (x : ℕ). a.here + x) (ap (λ (x : ℕ). x / 65536) q ∙ h.0 ∙ ap (λ (x : ℕ). u16_at a.table.now (a.entries + 4 * x)) e),
        omega (arith, c.requires.0, c.u32_at-entry.ensures.1),
      );
      flags = ap (λ (x : ℕ). x % 65536) q ∙ h.1 ∙ ap (λ (x : ℕ). u16_at a.table.now (a.entries + 4 * x + 2)) e;
    }
