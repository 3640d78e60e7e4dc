use Rattle.std.proofs.Common.{◌≡◌, ◌+◌, ◌-◌, ◌*◌}
use Rattle.std.proofs.lemmas.List.Edits.{sets}
use Rattle.diff_rule.specs.Again.{again}
use Rattle.diff_rule.proofs.put_again.Given as goal

abbrev pub invariant-loop-k : goal.invariant-loop-k
invariant-loop-k l =
    sets l.list (l.to + 5 * l.k) (again (l.count - l.k) l.block l.glyph (5 * l.k)) ≡ sets l.initial.list l.to (again l.count l.block l.glyph 0)
