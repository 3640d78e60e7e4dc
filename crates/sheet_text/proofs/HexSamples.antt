-- Document 01's sample of the program, a last line that is shorter, and two refusals.
use mathlib.Core.Path.{◌≡◌, refl}
use mathlib.Core.List.{List, [], ◌∷◌, ◌++◌}
use Prim.Native.Nat.{ℕ, zero, suc}
use lib.ListN.{replicate}
use Rattle.sheet_text.specs.Printed.{newline, digit_of, hex_line, lines_of, printed_sheet, decimal_of, printed_refusal}

-- n lines of the sheet's zeros
pub zeros : ℕ → List ℕ
zeros zero = []
zeros (suc n) = replicate 8 48 ++ (newline ∷ zeros n)

pub sample : printed_sheet (0 ∷ 0 ∷ 0 ∷ 1 ∷ replicate 64 0) ≡ replicate 7 48 ++ (49 ∷ newline ∷ zeros 16)
unfolding printed_sheet lines_of hex_line digit_of zeros
sample = refl

-- the bytes 09 af 10 ff 5a
short-line : printed_sheet (0x09 ∷ 0xaf ∷ 0x10 ∷ 0xff ∷ 0x5a ∷ [])
    ≡ 48 ∷ 57 ∷ 97 ∷ 102 ∷ 49 ∷ 48 ∷ 102 ∷ 102 ∷ newline ∷ 53 ∷ 97 ∷ newline ∷ []
unfolding printed_sheet lines_of hex_line digit_of
short-line = refl

no_line : printed_sheet [] ≡ []
unfolding printed_sheet lines_of
no_line = refl

refused-7 : printed_refusal 7 ≡ 114 ∷ 101 ∷ 102 ∷ 117 ∷ 115 ∷ 101 ∷ 100 ∷ 32 ∷ 55 ∷ newline ∷ []
unfolding printed_refusal decimal_of digit_of
refused-7 = refl

refused-17 : printed_refusal 17 ≡ 114 ∷ 101 ∷ 102 ∷ 117 ∷ 115 ∷ 101 ∷ 100 ∷ 32 ∷ 49 ∷ 55 ∷ newline ∷ []
unfolding printed_refusal decimal_of digit_of
refused-17 = refl
