-- Numbers in bytes, big-endian (document 01, "Numbers"): what stands at a position, read as if zeros followed the bytes, and the bytes of a number.
use Rattle.std.specs.Prelude.{ℕ, ◌+◌, ◌*◌, ◌/◌, ◌%◌, ◌<◌, List, [], ◌∷◌, ◌++◌, get_or}

unfoldable pub u16_at : List ℕ → ℕ → ℕ
u16_at bytes at = get_or bytes at 0 * 256 + get_or bytes (at + 1) 0

unfoldable pub u32_at : List ℕ → ℕ → ℕ
u32_at bytes at = u16_at bytes at * 65536 + u16_at bytes (at + 2)

abbrev pub be16 : ℕ → List ℕ
be16 n = n / 256 % 256 ∷ n % 256 ∷ []

abbrev pub be32 : ℕ → List ℕ
be32 n = be16 (n / 65536) ++ be16 (n % 65536)

-- every element is a byte
abbrev pub Bytes : List ℕ → Type 0
Bytes bytes = (i : ℕ) → get_or bytes i 0 < 256
