-- `write_list::action_hash` meets its contract.
use Prim.Native.Nat.{◌%◌}
use mathlib.Core.Path.{refl}
use native.Mathlib.Omega.{arith}
use Rattle.write_list.proofs.Laws.{weight-3, action-hash}
use Rattle.write_list.proofs.action_hash.Goals as goal

pub returns-then-ty-eq3 : goal.returns-then-ty-eq3
returns-then-ty-eq3 c =
    let a = c.args in
    let h = c.u32_at-head in
    let e = action-hash a.table.now (λ i. (c.type_inv.table i).fits) a.at h.result (h.result % 65536) 0 h.ensures.0 refl (weight-3 a.table.now a.at (h.result % 65536) c.if-ty-eq3.true) in
    (omega (arith, e), omega (arith, h.ensures.1))

pub returns : goal.returns
returns c =
    let a = c.args in
    let h = c.u32_at-head in
    let w = c.content_weight in
    (action-hash a.table.now (λ i. (c.type_inv.table i).fits) a.at h.result (h.result % 65536) w.result h.ensures.0 refl w.ensures.0, omega (arith, h.ensures.1, w.ensures.1))
