-- `sheet_sections::good_runs` meets its contract. The loop's invariant: the runs that are left are good after the last one exactly when all of them are. Assumes nothing.
use Rattle.std.proofs.Common.{◌+◌, ◌-◌, ◌*◌, ◌≤◌}
use Rattle.encoding.specs.Codes.{items_at}
use Rattle.sheet_sections.specs.RunSection.{run_at, GoodRuns}
use Rattle.sheet_sections.proofs.good_runs.Given as goal

abbrev pub invariant-loop-i : goal.invariant-loop-i
invariant-loop-i l =
    (l.from ≤ l.glyphs)
    × (GoodRuns l.glyphs l.limit l.skip l.from l.held (items_at run_at 6 l.bytes (l.at + 6 * l.i) (l.count - l.i)) → GoodRuns l.glyphs l.limit l.skip 0 l.skip (items_at run_at 6 l.bytes l.at l.count))
    × (GoodRuns l.glyphs l.limit l.skip 0 l.skip (items_at run_at 6 l.bytes l.at l.count) → GoodRuns l.glyphs l.limit l.skip l.from l.held (items_at run_at 6 l.bytes (l.at + 6 * l.i) (l.count - l.i)))
