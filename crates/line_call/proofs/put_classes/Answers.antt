-- `line_call::put_classes` meets its contract.
use native.Mathlib.Omega.{arith}
use lib.ListN.{drop_of_length-le}
use Rattle.std.proofs.Math.Seq.{drop-cons}
use Rattle.std.proofs.Common.{◌+◌, ◌≡◌, suc, drop}
use Rattle.share.proofs.Fill.{fill-again, fill_end}
use Rattle.line_call.proofs.put_classes.Goals as goal

pub loop-i-preserved : goal.loop-i-preserved
loop-i-preserved c =
    let h = c.args.held.now in
    let l = c.loop-i in
    let e : suc l.i ≡ l.i + 1 = omega arith in
    fill-again l.classes _ (drop (l.i + 1) h) l.i _ (omega arith) l.invariant (rw (← e) (drop-cons h l.i 0 (omega arith)))

pub returns : goal.returns
returns c =
    let h = c.args.held.now in
    let l = c.loop-i in
    fill_end l.classes _ l.i (omega arith) l.invariant (drop_of_length-le h (omega arith))
