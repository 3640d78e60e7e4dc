-- The text that the printing program writes (document 01, "Sample lines and tables", the passage on the program), as ASCII codes.
-- It is the sheet's bytes in hex with small letters, every line of them but perhaps the last full; or one line that names a refusal.
-- A newline stands after each line, so that a sheet of no bytes would have no text.
use Rattle.std.specs.Prelude.{ℕ, zero, suc, ◌+◌, ◌-◌, ◌/◌, ◌%◌, cond, List, [], ◌∷◌, ◌++◌, length, take, drop, ltb}

-- a newline
abbrev pub newline : ℕ
newline = 10

-- a digit below 16: `0` (48) to `9`, then `a` (97) to `f`
unfoldable pub digit_of : ℕ → ℕ
digit_of n = cond (ltb n 10) (48 + n) (97 + (n - 10))

-- ---- a sheet

-- the two hex digits of a byte
abbrev pub hex_of : ℕ → List ℕ
hex_of byte = digit_of (byte / 16) ∷ digit_of (byte % 16) ∷ []

-- a line of these bytes
unfoldable pub hex_line : List ℕ → List ℕ
hex_line [] = newline ∷ []
hex_line (byte ∷ bytes) = hex_of byte ++ hex_line bytes

-- how many bytes stand on a full line
abbrev pub per_line : ℕ
per_line = 4

-- how many lines so many bytes take: their number divided by a line's, rounded up
abbrev pub line_count : ℕ → ℕ
line_count n = (n + (per_line - 1)) / per_line

-- these bytes in n lines: the first line has the first bytes, as many as fit on it, and so on
unfoldable pub lines_of : ℕ → List ℕ → List ℕ
lines_of zero bytes = []
lines_of (suc n) bytes = hex_line (take per_line bytes) ++ lines_of n (drop per_line bytes)

-- the lines of a sheet
unfoldable pub printed_sheet : List ℕ → List ℕ
printed_sheet bytes = lines_of (line_count (length bytes)) bytes

-- ---- a refusal

-- `refused` and a space
abbrev pub refused : List ℕ
refused = 114 ∷ 101 ∷ 102 ∷ 117 ∷ 115 ∷ 101 ∷ 100 ∷ 32 ∷ []

-- a number below 100 in decimal
unfoldable pub decimal_of : ℕ → List ℕ
decimal_of n = cond (ltb n 10) (digit_of n ∷ []) (digit_of (n / 10) ∷ digit_of (n % 10) ∷ [])

-- the line of the refusal with this number
unfoldable pub printed_refusal : ℕ → List ℕ
printed_refusal number = refused ++ (decimal_of number ++ (newline ∷ []))
