-- `write_machine::Classes::put_each` meets its contract.
use Rattle.encoding.specs.Sections.{run_code}
use Rattle.encoding.specs.Codes.{many}
use Rattle.write_machine.proofs.Laws.{runs_from}
use lib.Seq.{sets}
use lib.ListN.{length}
use mathlib.Core.Path.{◌≡◌}
use Prim.Native.Nat.{◌+◌, ◌-◌, ◌*◌, ◌≤◌}
use Rattle.write_machine.proofs.Classes.put_each.Given as goal

abbrev pub invariant-loop-glyph : goal.invariant-loop-glyph
invariant-loop-glyph l =
    let left = runs_from l.self.table.now l.self.glyphs l.self.here l.glyph in
    let all = runs_from l.self.table.now l.self.glyphs l.self.here 0 in
    (l.glyph ≤ l.self.glyphs) × (l.count ≤ l.glyph) × (l.count + length left ≡ length all)
    × (sets l.out (l.to + 6 * l.count) (many run_code left) ≡ sets l.initial.out l.to (many run_code all))

abbrev pub decreases-loop-glyph : goal.decreases-loop-glyph
decreases-loop-glyph l = l.self.glyphs - l.glyph
