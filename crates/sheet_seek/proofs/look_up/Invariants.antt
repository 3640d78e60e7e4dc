-- `sheet_seek::look_up` meets its contract. The loop's invariant: looking up from here on is looking up from the start. Assumes nothing.
use Rattle.std.proofs.Common.{◌≡◌, ◌+◌, ◌-◌, ◌*◌}
use Rattle.encoding.specs.Codes.{items_at}
use Rattle.sheet_sections.specs.RunSection.{run_at}
use Rattle.sheet_seek.specs.LookUp.{value_at}
use Rattle.sheet_seek.proofs.look_up.Given as goal

abbrev pub invariant-loop-i : goal.invariant-loop-i
invariant-loop-i l =
    value_at l.glyph (items_at run_at 6 l.bytes l.at l.count) ≡ value_at l.glyph (items_at run_at 6 l.bytes (l.at + 6 * l.i) (l.count - l.i))
