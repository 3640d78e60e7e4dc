-- `write_runs::run_end` meets its contract.
use lib.ListN.{length, drop, replicate}
use mathlib.Core.List.{◌++◌}
use mathlib.Core.Path.{◌≡◌}
use Prim.Native.Nat.{◌-◌, ◌<◌, ◌≤◌}
use Rattle.write_runs.proofs.run_end.Given as goal

abbrev pub invariant-loop-end : goal.invariant-loop-end
invariant-loop-end l = (l.first < l.end) × (l.end ≤ length l.xs) × (drop l.first l.xs ≡ replicate (l.end - l.first) l.value ++ drop l.end l.xs)
