-- What bars a line by its input alone (document 01, "Numbers of refusal", 9 to 13; 18 between 10 and 11 by document 02, request 7/14), and what is known of a line that
-- is not barred.
use Rattle.std.specs.Prelude.{ℕ, ◌<◌, ◌≤◌, ◌≡◌, ◌⊎◌, Bool, ◌&&◌, ◌||◌, List, [], ◌∷◌, leb, ltb, eqb, ℤ, pos, length, get_or}
use Rattle.std.specs.List.{list_all}
use Rattle.std.specs.Int.Signed.{le_z}
use Rattle.fields.specs.declared.Refusal.TheVariants.{UnequalLengths, LongLine, UnknownEdition, PointSize}
use Rattle.fields.specs.Faults.{FirstFault, rule}
use Rattle.share.specs.Line.{sumℤ}
use Rattle.line_rule.specs.Line.{Line, known_edition}

-- ---- the tests

-- these lengths are all n
abbrev pub all_long : ℕ → List ℕ → Bool
all_long n = list_all (λ m. eqb m n)

-- 9: the sizes, the advances, and each slice that is lent with a place for every glyph, have the glyphs' number; `lengths` are those of such slices
abbrev pub equal_lengths : Line → List ℕ → Bool
equal_lengths l lengths = all_long (length l.glyphs) (length l.sizes ∷ length l.advances ∷ lengths)

-- 11: every size is 1 to 67,108,864 units, that of a deleted glyph and of one without a record too (document 02, request 5/14); so an empty line is never barred by it
abbrev pub good_size : ℕ → Bool
good_size size = leb 1 size && leb size 67108864

abbrev pub good_sizes : List ℕ → Bool
good_sizes = list_all good_size

-- 12: advances and target are 0 or more; the advances' sum, and the target, at most 1,073,741,823 units
abbrev pub within : ℤ → Bool
within x = le_z (pos 0) x && le_z x (pos 1073741823)

abbrev pub none_negative : List ℤ → Bool
none_negative = list_all (λ a. le_z (pos 0) a)

abbrev pub good_advances : Line → Bool
good_advances l = none_negative l.advances && within (sumℤ l.advances) && within l.target

-- 13: a glyph below N, or a deleted one
abbrev pub all_known : ℕ → List ℕ → Bool
all_known n = list_all (λ g. ltb g n || eqb g 0xFFFF)

-- what can bar a line, in order: 9, 10, 18 and 11, by the lengths of what is lent. 12 and 13 come after these, in `work_tests` of crates/line_call, where the gap is found.
abbrev pub input_tests : Line → List ℕ → List FirstFault
input_tests l lengths =
    rule (equal_lengths l lengths) UnequalLengths 0
    ∷ rule (leb (length l.glyphs) 1024) LongLine 0
    ∷ rule (known_edition l.edition) UnknownEdition 0
    ∷ rule (good_sizes l.sizes) PointSize 0
    ∷ []

-- ---- what is known of a line that is not barred

-- every size of a line's glyphs is at most 1,024 points
abbrev pub SmallSizes : List ℕ → Type 0
SmallSizes sizes = (place : ℕ) → get_or sizes place 0 ≤ 67108864

-- every glyph of a line is below N, or deleted
abbrev pub KnownGlyphs : ℕ → List ℕ → Type 0
KnownGlyphs n gs = (place : ℕ) → place < length gs → (get_or gs place 0 ≡ 0xFFFF) ⊎ (get_or gs place 0 < n)
