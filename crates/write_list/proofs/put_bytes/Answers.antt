use Rattle.write_list.proofs.Laws.{bytes-cons, bytes-none}
use Rattle.actions.specs.Actions.{bytes_at}
use Rattle.fields.specs.Stores.{put_next}
use lib.Seq.{sets}
use native.Mathlib.Omega.{arith}
use mathlib.Core.List.{List, [], ◌∷◌}
use mathlib.Core.Path.{ap, sym, ◌∙◌}
use Prim.Native.Nat.{ℕ, ◌+◌, ◌-◌}
use Rattle.write_list.proofs.put_bytes.Goals as goal

pub loop-i-preserved : goal.loop-i-preserved
loop-i-preserved c =
    let a = c.args in
    let l = c.loop-i in
    let x = c.u8_at in
    let t = a.table.now in
    let rest = bytes_at t (a.first + (l.i + 1)) (a.count - (l.i + 1)) in (
      omega arith,
      put_next (x.result ∷ []) rest (bytes_at t (a.first + l.i) (a.count - l.i)) l.out c.put_u8.new.out _ (a.to + l.i) (a.to + (l.i + 1))
          (bytes-cons t _ _ _ _ (omega arith) (omega arith) ∙ ap (λ (y : ℕ). y ∷ rest) (sym x.ensures.0)) (omega arith) c.put_u8.ensures l.invariant.1,
    )

pub returns : goal.returns
returns c =
    let a = c.args in
    let l = c.loop-i in
    ap (λ (bs : List ℕ). sets l.out (a.to + l.i) bs) (sym (bytes-none a.table.now _ (a.first + l.i) (omega arith))) ∙ l.invariant.1
