-- `sheet_seek::reach` meets its contract. The loop's invariant: where the steps that are left lead is where all of them do. Assumes nothing.
use Rattle.std.proofs.Common.{ℕ, ◌+◌, ◌-◌, length}
use Rattle.sheet_seek.specs.Passes.{Walks}
use Rattle.sheet_seek.proofs.reach.Given as goal

abbrev pub invariant-loop : goal.invariant-loop
invariant-loop g l =
    (q : ℕ) → Walks (λ p r. goal.F-post g l.after p r) (length l.bytes) (l.number - l.counter) l.place q
    → Walks (λ p r. goal.F-post g l.after p r) (length l.bytes) l.number (l.at + 4) q
