-- `sheet_write::put_copy` meets its contract.
use Prim.Native.Nat.{ℕ, ◌+◌, ◌-◌, ◌≤◌, ◌<◌, min}
use mathlib.Core.Path.{◌≡◌, ap₂}
use native.Mathlib.Omega.{arith}
use lib.Seq.{sets, slice}
use lib.ListN.{length}
use Rattle.sheet_write.proofs.Laws.{once_more, once-all}
use Rattle.sheet_write.proofs.put_copy.Goals as goal

pub loop-i-init : goal.loop-i-init
loop-i-init c =
    let a = c.args in
    let e : a.end + 0 ≡ a.end = omega arith in
    let f : a.from + 0 ≡ a.from = omega arith in
    ap₂ (λ (x y : ℕ). sets a.room.now x (slice y a.end a.room.now)) e f

pub loop-i-preserved : goal.loop-i-preserved
loop-i-preserved c =
    let a = c.args in
    let l = c.loop-i in
    let h : a.from + l.i < a.end = omega (arith, c.requires) in
    let k : a.end ≤ length l.room = omega arith in
    once_more l.room _ a.from a.end l.i l.invariant h k

pub returns : goal.returns
returns c =
    let a = c.args in
    let l = c.loop-i in
    let h : min (a.end - a.from) (length l.room - a.end) ≤ l.i = omega arith in
    let k : l.i ≤ a.end - a.from = omega arith in
    once-all l.room _ a.from a.end l.i l.invariant c.requires h k
