-- The checksum of a font's table (document 02, 12/14): "the sum of its 32-bit words, zero bytes filling the last, with carries out of 32 bits thrown away".
use Rattle.std.specs.Prelude.{ℕ, zero, suc, ◌+◌, ◌/◌, ◌%◌, ◌^◌, List, length}
use Rattle.fields.specs.Field.{u32_at}

-- a word's bytes
abbrev pub word_size : ℕ
word_size = 4

-- the sum of `n` words from `at` on; a field is read as if zeros followed the bytes, which fills the last word
unfoldable pub word_sum : List ℕ → ℕ → ℕ → ℕ
word_sum bytes zero at = 0
word_sum bytes (suc n) at = u32_at bytes at + word_sum bytes n (at + word_size)

-- how many words hold `size` bytes
abbrev pub words_for : ℕ → ℕ
words_for size = (size + 3) / word_size

unfoldable pub checksum_of : List ℕ → ℕ
checksum_of bytes = word_sum bytes (words_for (length bytes)) 0 % 2 ^ 32
