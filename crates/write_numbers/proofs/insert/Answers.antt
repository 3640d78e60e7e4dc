use Prim.Native.Nat.{◌+◌}
use mathlib.Core.Path.{◌≡◌, subst}
use native.Mathlib.Omega.{arith}
use Rattle.write_numbers.proofs.Moved.{Moved, moved-stored}
use Rattle.write_numbers.proofs.insert.Goals as goal

pub returns : goal.returns
returns c =
    let a = c.args in
    let l = c.loop-i in
    let e : l.i ≡ a.n + 1 = omega arith in
    moved-stored a.others.now l.others a.n a.index c.requires.0 (omega arith) (subst (Moved a.others.now l.others) e l.invariant.0)
