-- What a reader of a section says (document 01, "The sheet": bytes are a sheet exactly when they are written for some meaning). It finds the bytes of
-- a valid value, and where they end; or it finds that no valid value's bytes stand there.
use Rattle.std.specs.Prelude.{ℕ, ◌+◌, ◌*◌, ◌≤◌, ◌≡◌, List, length, Option, Some, None}
use Rattle.fields.specs.Field.{u32_at}
use Rattle.encoding.specs.Codes.{Found, Absent}

-- what a reader of a code's valid values answers at a place
abbrev pub Parses : {A : Type 0} → (A → List ℕ) → (A → Type 0) → List ℕ → ℕ → Option ℕ → Type 0
Parses code ok bytes at (Some q) = Found code ok bytes at q
Parses code ok bytes at None = Absent code ok bytes at

-- a 32-bit count stands there, and as many items of so many bytes after it
abbrev pub HasItems : ℕ → List ℕ → ℕ → Type 0
HasItems width bytes at = at + 4 + width * u32_at bytes at ≤ length bytes

-- that count, where they are there
abbrev pub Counts : ℕ → List ℕ → ℕ → Option ℕ → Type 0
Counts width bytes at (Some n) = HasItems width bytes at × (n ≡ u32_at bytes at)
Counts width bytes at None = HasItems width bytes at → ⊥
