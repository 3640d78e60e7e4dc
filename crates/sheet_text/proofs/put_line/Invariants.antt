use Rattle.std.proofs.Common.{◌≡◌, ◌+◌, ◌*◌, drop}
use Rattle.std.proofs.lemmas.List.Edits.{sets}
use Rattle.sheet_text.specs.Printed.{hex_line}
use Rattle.sheet_text.proofs.put_line.Given as goal

-- what is left to store, stored where it goes, makes the whole line
abbrev pub invariant-loop-i : goal.invariant-loop-i
invariant-loop-i l = sets l.out (l.at + 2 * l.i) (hex_line (drop l.i l.bytes)) ≡ sets l.initial.out l.at (hex_line l.bytes)
