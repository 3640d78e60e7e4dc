-- `fields::put_u32` meets its contract.
use Rattle.std.proofs.Common.{◌≡◌, ◌∙◌, ◌+◌, ◌-◌, ◌≤◌, length}
use Rattle.fields.specs.Field.{be32}
use Rattle.fields.proofs.Laws.{halves_bytes, word_placed}
use native.Mathlib.Omega.{arith}
use Rattle.fields.proofs.put_u32.Goals as goal

pub returns : goal.returns
returns c =
    let a = c.args in
    let h : a.at + 4 ≤ length a.out.now = omega arith in
    let e : a.at + 4 - a.at ≡ 4 = omega arith in
    let b : c.copy_from_slice.new.self ≡ be32 a.number = c.copy_from_slice.ensures.after ∙ c.to_be_bytes.ensures ∙ halves_bytes a.number c.ranges.number.fits in
    rw (e, b) (word_placed a.out.now a.at a.number h)
