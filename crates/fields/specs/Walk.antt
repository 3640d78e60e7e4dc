-- The first fault of things that follow each other: units, pairs, actions, values or glyphs, `n` of them, the first at `at` and the one after `p` at `to p`.
-- `one p least` is the first fault of the thing at `p`, which `least` bears on, and `next p` is what bears on the thing after it.
use Prim.Native.Nat.{ℕ, zero, suc}
use Rattle.fields.specs.Faults.{FirstFault}
use Rattle.fields.specs.Faults.{Clear}
use Rattle.fields.specs.Faults.{◌then◌}

unfoldable pub walk : (ℕ → ℕ → FirstFault) → (ℕ → ℕ) → (ℕ → ℕ) → ℕ → ℕ → ℕ → FirstFault
walk one to next zero at least = Clear
walk one to next (suc n) at least = one at least then walk one to next n (to at) (next at)

-- things on which nothing before them bears
abbrev pub each : (ℕ → FirstFault) → (ℕ → ℕ) → ℕ → ℕ → FirstFault
each one to n at = walk (λ p _. one p) to (λ p. 0) n at 0
