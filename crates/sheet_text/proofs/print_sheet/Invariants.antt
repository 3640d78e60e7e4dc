use Rattle.std.proofs.Common.{◌≡◌, ◌+◌, ◌*◌, length, drop}
use Rattle.std.proofs.lemmas.List.Edits.{sets}
use Rattle.sheet_text.specs.Printed.{printed_sheet}
use Rattle.sheet_text.proofs.print_sheet.Given as goal

-- the text of the bytes that are left, stored where it goes, makes the whole text
abbrev pub invariant-loop-k : goal.invariant-loop-k
invariant-loop-k l =
    (l.at + length (printed_sheet (drop (4 * l.k) l.sheet)) ≡ length (printed_sheet l.sheet))
    × (sets l.out l.at (printed_sheet (drop (4 * l.k) l.sheet)) ≡ sets l.initial.out 0 (printed_sheet l.sheet))
