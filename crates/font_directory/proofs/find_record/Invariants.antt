use Rattle.std.proofs.Common.{◌≡◌, ◌+◌, ◌-◌, ◌*◌}
use Rattle.font_directory.specs.Directory.{table_count, first_from, first_listed}
use Rattle.font_directory.proofs.find_record.Given as goal

abbrev pub invariant-loop-k : goal.invariant-loop-k
invariant-loop-k l = first_listed l.font l.tag ≡ first_from l.font l.tag (table_count l.font - l.k) (12 + 16 * l.k)
