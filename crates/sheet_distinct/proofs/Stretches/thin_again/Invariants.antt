-- `sheet_distinct::Stretches::thin_again` meets its contract. The loop's invariant: each number so far is the first of its slot, or set aside, and those to
-- come stand where they stood. Assumes nothing.
use Rattle.std.proofs.Common.{ℕ, ◌≡◌, ◌≤◌, length, get_or, take}
use Rattle.sheet_distinct.specs.Order.{stretch}
use Rattle.sheet_distinct.specs.Slots.{slot_by}
use Rattle.sheet_distinct.proofs.ThinLaws.{Again}
use Rattle.sheet_distinct.proofs.Stretches.thin_again.Given as goal

abbrev pub invariant-loop-i : goal.invariant-loop-i
invariant-loop-i l =
    (length l.numbers ≡ length l.initial.numbers) × (length l.firsts ≡ length l.initial.firsts) × (l.left ≤ l.i)
    × ((j : ℕ) → l.i ≤ j → get_or l.numbers j 0 ≡ get_or l.initial.numbers j 0)
    × Again (stretch l.self.bytes.now l.self.offsets.now) l.initial.numbers
    (λ (x : ℕ). slot_by 2246822519 (length l.initial.firsts) (stretch l.self.bytes.now l.self.offsets.now x)) l.i l.firsts (take l.left l.numbers)
