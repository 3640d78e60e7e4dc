-- `line_input::sum_of` meets its contract.
use lib.ListN.{drop}
use Rattle.line_input.proofs.Gaps.{added}
use Prim.Native.Nat.{◌≤◌}
use mathlib.Core.Path.{◌≡◌}
use Rattle.line_input.specs.Steps.{sum_in}
use Rattle.line_input.proofs.sum_of.Given as goal

abbrev pub invariant-loop-advance : goal.invariant-loop-advance
invariant-loop-advance l = (l.sum ≤ 1073741823) × (sum_in l.advances ≡ added l.sum (drop l.advance-index l.advances))
