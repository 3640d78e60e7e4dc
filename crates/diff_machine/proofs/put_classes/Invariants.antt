-- `diff_machine::put_classes` meets its contract.
use Rattle.diff_machine.specs.Machines.{class_differs}
use Rattle.diff_rule.proofs.Filled.{Filled}
use Prim.Native.Nat.{◌+◌, ◌*◌, ◌≤◌}
use Rattle.diff_machine.proofs.put_classes.Given as goal

abbrev pub invariant-loop-glyph : goal.invariant-loop-glyph
invariant-loop-glyph l =
    (l.at ≤ l.to + 6 * l.glyph) × Filled (class_differs l.one l.other l.machines) l.initial.list l.list l.to l.at l.initial.glyph l.glyph
