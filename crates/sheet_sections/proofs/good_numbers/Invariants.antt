-- `sheet_sections::good_numbers` meets its contract. The loop's invariant: the runs that are left number in order after the ones passed exactly when all of them do. Assumes nothing.
use Rattle.std.proofs.Common.{◌+◌, ◌-◌, ◌*◌, ◌≤◌}
use Rattle.encoding.specs.Codes.{items_at}
use Rattle.sheet_sections.specs.Pool.{number_run_at, NumbersFrom}
use Rattle.sheet_sections.proofs.good_numbers.Given as goal

abbrev pub invariant-loop-i : goal.invariant-loop-i
invariant-loop-i l =
    (l.from ≤ l.glyphs) × (l.used ≤ 65537)
    × (NumbersFrom l.glyphs l.items l.from l.held l.used (items_at number_run_at 6 l.bytes (l.at + 6 * l.i) (l.count - l.i)) → NumbersFrom l.glyphs l.items 0 0 1 (items_at number_run_at 6 l.bytes l.at l.count))
    × (NumbersFrom l.glyphs l.items 0 0 1 (items_at number_run_at 6 l.bytes l.at l.count) → NumbersFrom l.glyphs l.items l.from l.held l.used (items_at number_run_at 6 l.bytes (l.at + 6 * l.i) (l.count - l.i)))
