-- `sheet_distinct::Stretches::thin` meets its contract. The loop's invariant: each number so far is the first of its slot, or set aside. Assumes nothing.
use Rattle.std.proofs.Common.{ℕ, ◌≡◌, ◌≤◌, length, take}
use Rattle.sheet_distinct.specs.Order.{stretch}
use Rattle.sheet_distinct.specs.Slots.{slot_of}
use Rattle.sheet_distinct.proofs.ThinLaws.{Kept}
use Rattle.sheet_distinct.proofs.Stretches.thin.Given as goal

abbrev pub invariant-loop-k : goal.invariant-loop-k
invariant-loop-k l =
    (length l.numbers ≡ length l.initial.numbers) × (length l.firsts ≡ length l.initial.firsts) × (l.left ≤ l.k)
    × Kept (stretch l.self.bytes.now l.self.offsets.now) (λ (x : ℕ). slot_of (length l.initial.firsts) (stretch l.self.bytes.now l.self.offsets.now x)) l.k l.firsts (take l.left l.numbers)
