-- `share::carry_on` meets its contract.
use native.Mathlib.Omega.{arith}
use Rattle.share.proofs.Runs.{stays, reaches}
use Rattle.share.proofs.carry_on.Goals as goal

pub returns-then-sum-over : goal.returns-then-sum-over
returns-then-sum-over c = let a = c.args in stays a.amount a.over a.weight a.carried.quotient a.carried.remainder c.product-own.ensures (omega (arith, c.if-sum-over.true))

pub returns : goal.returns
returns c = let a = c.args in reaches a.amount a.over a.weight a.carried.quotient a.carried.remainder c.product-own.ensures c.requires.remainder (omega (arith, c.if-sum-over.false))
