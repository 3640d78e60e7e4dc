-- Laws of the printed text: its length, for the room that it needs; a line at a time; and how it is found in the lent bytes.
use Rattle.std.specs.Prelude.{ℕ, zero, suc, ◌+◌, ◌-◌, ◌*◌, ◌/◌, ◌%◌, ◌≤◌, ◌<◌, min, ◌≡◌, refl, Bool, true, false, cond, List, [], ◌∷◌, ◌++◌, length, take, drop, ltb}
use Rattle.std.proofs.Common.{ap, ap₂, ◌∙◌, arith, length-append, length-take, length-drop}
use Rattle.std.proofs.Math.Seq.{take-append_seam}
use Rattle.sheet_text.specs.Printed.{newline, digit_of, hex_line, per_line, line_count, lines_of, printed_sheet, decimal_of, printed_refusal}
use Rattle.sheet_text.specs.Stored.{Printed}

-- ---- lines

pub line-length : (bytes : List ℕ) → length (hex_line bytes) ≡ 2 * length bytes + 1
unfolding hex_line
line-length [] = refl
line-length (b ∷ bytes) = omega (arith, line-length bytes)

pub lines-length : (n : ℕ) (bytes : List ℕ) → length bytes ≤ per_line * n → length (lines_of n bytes) ≡ 2 * length bytes + n
unfolding lines_of
lines-length zero bytes h = omega arith
lines-length (suc n) bytes h =
    let t : length (take per_line bytes) ≡ min per_line (length bytes) = length-take per_line bytes in
    let d : length (drop per_line bytes) ≡ length bytes - per_line = length-drop per_line bytes in
    let rest = lines-length n (drop per_line bytes) (omega arith) in
    length-append (hex_line (take per_line bytes)) (lines_of n (drop per_line bytes))
    ∙ (omega (arith, line-length (take per_line bytes)))

-- a sheet's text is two digits a byte, and a newline a line
pub printed-length : (sheet : List ℕ) → length (printed_sheet sheet) ≡ 2 * length sheet + line_count (length sheet)
unfolding printed_sheet
printed-length sheet = lines-length (line_count (length sheet)) sheet (omega arith)

-- the room for the text of at most n bytes; of at most 65,536 it is 147,456
pub printed-most : (sheet : List ℕ) (n : ℕ) → length sheet ≤ n → length (printed_sheet sheet) ≤ 2 * n + line_count n
printed-most sheet n h = omega (arith, printed-length sheet)

-- ---- a line at a time

-- no bytes, no line
pub printed-none : (bytes : List ℕ) → length bytes ≤ 0 → printed_sheet bytes ≡ []
unfolding printed_sheet lines_of
printed-none [] h = refl
printed-none (b ∷ bytes) h = absurd (omega arith)

-- the first line, and the rest
pub printed-next : (bytes : List ℕ) → 0 < length bytes → printed_sheet bytes ≡ hex_line (take per_line bytes) ++ printed_sheet (drop per_line bytes)
unfolding printed_sheet lines_of
printed-next bytes h =
    let d : length (drop per_line bytes) ≡ length bytes - per_line = length-drop per_line bytes in
    let e : line_count (length bytes) ≡ suc (line_count (length (drop per_line bytes))) = omega arith in
    ap (λ (n : ℕ). lines_of n bytes) e

-- ---- a refusal

-- one or two digits
pub decimal-length : (n : ℕ) → length (decimal_of n) ≤ 2
unfolding decimal_of
decimal-length n = go (ltb n 10)
  where
    go : (b : Bool) → length (cond b (digit_of n ∷ []) (digit_of (n / 10) ∷ digit_of (n % 10) ∷ [])) ≤ 2
    go true = omega arith
    go false = omega arith

-- the room for a refusal's line
pub refusal-most : (n : ℕ) → length (printed_refusal n) ≤ 11
unfolding printed_refusal
refusal-most n = omega (arith, length-append (decimal_of n) (newline ∷ []), decimal-length n)

-- ---- what was printed

-- so many of the lent bytes as were answered are the text
pub printed-text : {text entry exit : List ℕ} {answer : ℕ} → Printed text entry exit answer → take answer exit ≡ text
printed-text {text} {entry} {exit} {answer} p =
    ap₂ (λ (k : ℕ) (l : List ℕ). take k l) p.count p.bytes ∙ take-append_seam text (drop (length text) entry)

-- there are so many, as who lends that part of them has to show
pub printed-part : {text entry exit : List ℕ} {answer : ℕ} → Printed text entry exit answer
    → (answer ≤ length exit) × (answer ≡ length (take answer exit))
printed-part {text} {entry} {exit} {answer} p =
    (omega (arith, p.count, ap length p.bytes, length-append text (drop (length text) entry)), omega (arith, p.count, ap length (printed-text p)))
