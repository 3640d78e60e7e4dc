-- Distinct items, and runs of glyphs with the number of an item (document 01, "The sheet", sections 5 and 6, 7 and 8). The x-th of the items is written
-- as x - 1; here items are counted from 1 on, and 0 is a glyph with none.
use Rattle.std.specs.Prelude.{ℕ, suc, ◌+◌, ◌≤◌, List, length}
use Rattle.std.proofs.Math.Logic.{ite}
use Rattle.std.proofs.Math.Decide.{ℕ_discrete}
use Rattle.fields.specs.Field.{u16_at}
use Rattle.encoding.specs.Codes.{All}
use Rattle.encoding.specs.Runs.{Run, OkRuns}
use Rattle.encoding.specs.Distinct.{InOrder, Once}
use Rattle.encoding.proofs.PoolReadLaws.{values}

-- at most n distinct valid items
abbrev pub Items : {A : Type 0} → Discrete A → (A → Type 0) → ℕ → List A → Type 0
Items eq ok n ds = (length ds ≤ n) × Once eq ds × All ok ds

-- the run that stands at a place
abbrev pub number_run_at : List ℕ → ℕ → Run ℕ
number_run_at bytes at = record { first = u16_at bytes at; last = u16_at bytes (at + 2); value = u16_at bytes (at + 4) + 1 }

-- runs among n glyphs from `from` on, after a run of the number `held`, whose numbers come in order of first use: those below `used` are used before,
-- and m items in all
abbrev pub NumbersFrom : ℕ → ℕ → ℕ → ℕ → ℕ → List (Run ℕ) → Type 0
NumbersFrom n m from held used rs = OkRuns 0 n from held rs × InOrder (suc m) used (values rs)

-- all of the runs of n glyphs
abbrev pub NumberRuns : ℕ → ℕ → List (Run ℕ) → Type 0
NumberRuns n m rs = NumbersFrom n m 0 0 1 rs

-- the next new number, after one more
abbrev pub used_after : ℕ → ℕ → ℕ
used_after number used = ite (ℕ_discrete number used) (suc used) used
