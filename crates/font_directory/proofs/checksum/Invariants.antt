use Rattle.std.proofs.Common.{◌≡◌, ◌+◌, ◌-◌, ◌*◌, ◌%◌, ◌^◌, ◌<◌}
use Rattle.font_directory.specs.Sum.{word_sum, checksum_of}
use Rattle.font_directory.proofs.checksum.Given as goal

abbrev pub invariant-loop-k : goal.invariant-loop-k
invariant-loop-k l = (checksum_of l.table ≡ (l.sum + word_sum l.table (l.words - l.k) (4 * l.k)) % 2 ^ 32) × (l.sum < 2 ^ 32)
