-- What the code stores is what is to be printed: stores one after the other, a line's next byte, a sheet's next line.
use Prim.Native.Nat.{ℕ, suc, ◌+◌, ◌-◌, ◌*◌, ◌/◌, ◌%◌, ◌≤◌, ◌<◌, min}
use mathlib.Core.Path.{◌≡◌, refl, sym, ap, ap₂, ◌∙◌}
use mathlib.Core.List.{List, [], ◌∷◌, ◌++◌}
use native.Mathlib.Omega.{arith}
use native.Mathlib.Decide.{dec_le}
use native.Mathlib.Numerals.{add-one}
use lib.ListN.{length, get_or, set, take, drop, length-append, length-drop, drop_of_length-le}
use lib.Seq.{sets, sets-eq, drop-cons, drop-drop, take_all}
use borrow.Author.Tests.{lt-ltb, le-ltb}
use Rattle.fields.specs.Stores.{put_two}
use Rattle.sheet_text.specs.Printed.{newline, digit_of, hex_of, hex_line, per_line, printed_sheet, refused, decimal_of, printed_refusal}
use Rattle.sheet_text.specs.Stored.{Stored, Printed}
use Rattle.sheet_text.specs.Laws.{line-length, printed-none, printed-next, decimal-length}

-- two stores side by side
pub stored-two : (l : List ℕ) (at : ℕ) {a b a' b' : ℕ} → a ≡ a' → b ≡ b' → set (set l at a) (at + 1) b ≡ sets l at (a' ∷ b' ∷ [])
stored-two l at {a} {b} {a'} {b'} ea eb =
    ap (λ (k : ℕ). set (set l at a) k b) (add-one at) ∙ ap₂ (λ (x y : ℕ). set (set l at x) (suc at) y) ea eb

-- a text stored at the start
pub stored-first : (text l : List ℕ) → length text ≤ length l → sets l 0 text ≡ text ++ drop (length text) l
stored-first text l h =
    let e : 0 + length text ≡ length text = omega arith in
    sets-eq text l 0 (omega arith) ∙ ap (λ (k : ℕ). text ++ drop k l) e

-- ---- a line

pub line-next : (bytes : List ℕ) (i : ℕ) → i < length bytes → hex_line (drop i bytes) ≡ hex_of (get_or bytes i 0) ++ hex_line (drop (i + 1) bytes)
unfolding hex_line
line-next bytes i h =
    ap hex_line (drop-cons bytes i 0 h) ∙ ap (λ (k : ℕ). hex_of (get_or bytes i 0) ++ hex_line (drop k bytes)) (sym (add-one i))

pub line-last : (bytes : List ℕ) (i : ℕ) → length bytes ≤ i → hex_line (drop i bytes) ≡ newline ∷ []
unfolding hex_line
line-last bytes i h = ap hex_line (drop_of_length-le bytes h)

-- how long a line is
pub ruleset line_steps = (line-length)

-- ---- a sheet

pub sheet-last : (sheet : List ℕ) (from : ℕ) → length sheet ≤ from → printed_sheet (drop from sheet) ≡ []
sheet-last sheet from h = printed-none (drop from sheet) (omega (arith, length-drop from sheet))

-- to take more than there is
cut : (l : List ℕ) (n : ℕ) → take (min n (length l)) l ≡ take n l
cut l n = go (dec_le n (length l))
  where
    go : Dec (n ≤ length l) → take (min n (length l)) l ≡ take n l
    go (yes p) = let e : min n (length l) ≡ n = omega arith in ap (λ (k : ℕ). take k l) e
    go (no p) =
        let h : length l ≤ n = omega (arith, p) in
        let h' : length l ≤ min n (length l) = omega arith in
        take_all _ l h' ∙ sym (take_all n l h)

-- the line with a number, from 0 on
pub sheet-next : (sheet : List ℕ) (k end : ℕ) → per_line * k < length sheet → end ≡ min (length sheet) (per_line * k + per_line)
    → printed_sheet (drop (per_line * k) sheet) ≡ hex_line (take (end - per_line * k) (drop (per_line * k) sheet)) ++ printed_sheet (drop (per_line * (k + 1)) sheet)
sheet-next sheet k end h e =
    let from : ℕ = per_line * k in
    let l = drop from sheet in
    let len : length l ≡ length sheet - from = length-drop from sheet in
    let n : min per_line (length l) ≡ end - from = omega arith in
    let next : from + per_line ≡ per_line * (k + 1) = omega arith in
    let first : take per_line l ≡ take (end - from) l = sym (cut l per_line) ∙ ap (λ (m : ℕ). take m l) n in
    let rest : drop per_line l ≡ drop (per_line * (k + 1)) sheet = drop-drop per_line from sheet ∙ ap (λ (m : ℕ). drop m sheet) next in
    printed-next l (omega arith) ∙ ap₂ (λ (a b : List ℕ). hex_line a ++ printed_sheet b) first rest

-- ---- a refusal

pub decimal-one : (n : ℕ) → n < 10 → decimal_of n ≡ digit_of n ∷ []
unfolding decimal_of
decimal-one n h = simp (lt-ltb n 10 h)

pub decimal-two : (n : ℕ) → 10 ≤ n → decimal_of n ≡ digit_of (n / 10) ∷ digit_of (n % 10) ∷ []
unfolding decimal_of
decimal-two n h = simp (le-ltb n 10 h)

-- the word, the number and the newline stored one after the other
pub stored-refusal : (n end : ℕ) (l₀ l₁ l₂ : List ℕ) → 11 ≤ length l₀ → l₁ ≡ refused ++ drop 8 l₀ → Stored (decimal_of n) 8 l₁ l₂ end
    → Printed (printed_refusal n) l₀ (set l₂ end newline) (end + 1)
unfolding printed_refusal
stored-refusal n end l₀ l₁ l₂ h word number =
    let last : List ℕ = newline ∷ [] in
    let d = decimal-length n in
    let len : length (decimal_of n ++ last) ≡ length (decimal_of n) + 1 = length-append (decimal_of n) last in
    let all : set l₂ end newline ≡ sets l₀ 0 (refused ++ (decimal_of n ++ last)) =
    put_two refused (decimal_of n ++ last) l₀ l₁ (set l₂ end newline) 0 8 refl
    (word ∙ sym (stored-first refused l₀ (omega arith)))
    (put_two (decimal_of n) last l₁ l₂ (set l₂ end newline) 8 end number.end number.bytes refl) in
    record { count = omega (arith, number.end); bytes = all ∙ stored-first (refused ++ (decimal_of n ++ last)) l₀ (omega arith) }

-- how long a number is
pub ruleset decimal_steps = (decimal-length)
