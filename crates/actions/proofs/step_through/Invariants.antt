-- `actions::step_through` meets its contract.
use Rattle.std.proofs.Common.{◌≡◌, ℕ, ◌+◌, ◌≤◌, ◌^◌, length}
use Rattle.actions.specs.Faults.{actions_fault}
use Rattle.actions.specs.Notes.{Passing}
use Rattle.actions.proofs.step_through.Given as goal

abbrev pub invariant-loop-passed : goal.invariant-loop-passed
invariant-loop-passed l =
    ((k : ℕ) → actions_fault l.table l.glyphs (l.passed + k) l.first ≡ actions_fault l.table l.glyphs k l.at)
    × (l.at ≤ length l.table + 2 ^ 32)
    × Passing l.table l.glyphs l.initial.judged l.judged
    × (l.over ≤ l.passed)
