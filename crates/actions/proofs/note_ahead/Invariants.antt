-- `actions::note_ahead` meets its contract.
use Rattle.std.proofs.Common.{◌≡◌, ◌-◌}
use Rattle.fields.specs.Faults.{Clear}
use Rattle.actions.specs.Faults.{actions_fault}
use Rattle.actions.specs.Notes.{Passing}
use Rattle.actions.proofs.note_ahead.Given as goal

abbrev pub invariant-loop-passed : goal.invariant-loop-passed
invariant-loop-passed l =
    (actions_fault l.table l.glyphs (l.count - l.passed) l.at ≡ Clear) × Passing l.table l.glyphs l.initial.judged l.judged
