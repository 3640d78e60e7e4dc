-- `diff_clusters::put_records` meets its contract.
use Rattle.diff_clusters.proofs.Laws.{Put}
use Prim.Native.Nat.{◌+◌, ◌*◌, ◌≤◌, ◌<◌, ◌^◌}
use Rattle.diff_clusters.proofs.put_records.Given as goal

abbrev pub invariant-loop-step : goal.invariant-loop-step
invariant-loop-step l =
    (l.ones.at + 24 * l.ones.count < 2 ^ 59) × (l.others.at + 24 * l.others.count < 2 ^ 59) × (l.end + 6 * (l.ones.count + l.others.count) ≤ l.to + 2 ^ 36)
    × Put l.one l.other l.first l.second l.ones l.others l.direction l.glyph l.initial.list l.list l.to l.end

abbrev pub decreases-loop-step : goal.decreases-loop-step
decreases-loop-step l = l.ones.count + l.others.count
