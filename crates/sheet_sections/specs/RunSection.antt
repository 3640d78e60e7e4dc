-- The section of maximal runs (document 01, "The sheet", section 2): first, last and value of each, 16 bits each.
use Rattle.std.specs.Prelude.{ℕ, ◌+◌, ◌≤◌, ◌<◌, ◌≡◌, List, length}
use Rattle.fields.specs.Field.{u16_at}
use Rattle.encoding.specs.Codes.{All}
use Rattle.encoding.specs.Runs.{Run, OkRuns}

-- n elements below limit
abbrev pub Below : ℕ → ℕ → List ℕ → Type 0
Below n limit xs = (length xs ≡ n) × All (λ (x : ℕ). x < limit) xs

-- the run that stands at a place
abbrev pub run_at : List ℕ → ℕ → Run ℕ
run_at bytes at = record { first = u16_at bytes at; last = u16_at bytes (at + 2); value = u16_at bytes (at + 4) }

-- a run among n elements that may stand after what ended before `from` with the value `held`
pub record MayFollow (n limit skip from held : ℕ) (r : Run ℕ) : Type 0 where
  pub rises : from ≤ r.first
  pub whole : r.first ≤ r.last
  pub inside : r.last < n
  pub small : r.value < limit
  pub other : r.value ≡ skip → ⊥
  pub maximal : r.first ≡ from → r.value ≡ held → ⊥

-- runs that may stand there one after the other
abbrev pub GoodRuns : ℕ → ℕ → ℕ → ℕ → ℕ → List (Run ℕ) → Type 0
GoodRuns n limit skip from held rs = OkRuns skip n from held rs × All (λ (r : Run ℕ). r.value < limit) rs
