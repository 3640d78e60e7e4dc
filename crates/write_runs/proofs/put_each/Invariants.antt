-- `write_runs::put_each` meets its contract.
use Prim.Native.Nat.{ℕ, ◌+◌, ◌-◌, ◌*◌, ◌≤◌, ◌<◌, ◌^◌}
use mathlib.Core.Path.{◌≡◌}
use native.Mathlib.Decide.{ℕ_discrete}
use lib.ListN.{length, drop}
use lib.Seq.{sets}
use Rattle.encoding.specs.Codes.{many}
use Rattle.encoding.specs.Runs.{runs}
use Rattle.encoding.specs.Sections.{run_less_code}
use Rattle.write_runs.specs.Spread.{spread, Rise}
use Rattle.write_runs.proofs.put_each.Given as goal

abbrev pub invariant-loop-i : goal.invariant-loop-i
invariant-loop-i l =
    (l.i ≤ length l.nums) × (length l.out ≡ length l.initial.out) × (l.count ≤ l.i) × (length l.nums < 2 ^ 16)
    × ((n : ℕ) × Rise l.first (drop l.i l.ends) n)
    × (l.count + length (runs ℕ_discrete 0 l.first (spread l.first (drop l.i l.ends) (drop l.i l.nums))) ≡ length (runs ℕ_discrete 0 0 (spread 0 l.ends l.nums)))
    × (sets l.out (l.to + 6 * l.count) (many run_less_code (runs ℕ_discrete 0 l.first (spread l.first (drop l.i l.ends) (drop l.i l.nums)))) ≡ sets l.initial.out l.to (many run_less_code (runs ℕ_discrete 0 0 (spread 0 l.ends l.nums))))

abbrev pub decreases-loop-i : goal.decreases-loop-i
decreases-loop-i l = length l.nums - l.i
