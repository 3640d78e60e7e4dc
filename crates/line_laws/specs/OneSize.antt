-- The call for a line in one point size, as it was before each glyph had its own (document 02, request 5/14) and before there was a second edition of the rule: the line
-- and all that looks at its size; whatever looks at none is cited. Only `AsBefore` and `EmptyAsBefore` speak of it.
use Rattle.std.specs.Prelude.{ℕ, suc, Bool, true, ◌&&◌, List, [], ◌∷◌, ◌++◌, map, leb, ℤ, ◌+ℤ◌, length, get_or, drop, Ok, Err}
use Rattle.fields.specs.declared.Refusal.TheVariants.{UnequalLengths, LongLine, PointSize, Advances, UnknownGlyph, EndlessWalk, StageTotal, ShortRoom}
use Rattle.fields.specs.Refusals.{number_of}
use Rattle.fields.specs.Faults.{FirstFault, ◌then◌, rule, first_fault}
use Rattle.types.specs.declared.Direction.{Direction}
use Rattle.types.specs.declared.Verdict.{Verdict}
use Rattle.meaning.specs.Meaning.{Side}
use Rattle.meaning.specs.Ask.{side_of}
use Rattle.share.specs.Line.{Glyph, before_moves, after_moves, line_left, line_fits, signed_of}
use Rattle.table.specs.Table.{table_fault}
use Rattle.table.specs.Means.{meaning_of}
use Rattle.line_rule.specs.Line as sized
use Rattle.line_rule.specs.Line.{shrinks, gap_size, walk_of, has_stopped, classes_of, entries_of, record_for, part_of, firings}
use Rattle.line_call.specs.Justified.{Lent, lengths_of, justifies, refuses, Outcome}
use Rattle.line_input.specs.Input.{all_long, good_advances, all_known}

-- a line: its direction, whether it starts and ends the text, its point size, its glyphs with their advances, and its target, in units
pub record Line : Type 0 where
  pub direction : Direction
  pub starts : Bool
  pub ends : Bool
  pub size : ℕ
  pub glyphs : List ℕ
  pub advances : List ℤ
  pub target : ℤ

-- of the line that which the gap, the class walk and refusal 12 look at, and so no size and no edition
abbrev pub unsized : Line → sized.Line
unsized l =
    record { direction = l.direction; starts = l.starts; ends = l.ends; sizes = []; glyphs = l.glyphs; advances = l.advances; target = l.target; edition = 0 }

-- ---- the movements

-- the parts of the line's glyphs, with their classes
unfoldable pub parts_of : Side → Bool → ℕ → List ℕ → List ℕ → List Glyph
parts_of s shrink size [] cs = []
parts_of s shrink size (g ∷ gs) [] = []
parts_of s shrink size (g ∷ gs) (c ∷ cs) = part_of shrink size (record_for s g c) ∷ parts_of s shrink size gs cs

abbrev pub parts_for : Side → Line → List Glyph
parts_for s l = parts_of s (shrinks (unsized l)) l.size l.glyphs (classes_of (walk_of s.machine (unsized l)))

unfoldable pub before_of : Side → Line → List ℤ
before_of s l = map (signed_of (shrinks (unsized l))) (before_moves true (parts_for s l) (gap_size (unsized l)))

unfoldable pub after_of : Side → Line → List ℤ
after_of s l = map (signed_of (shrinks (unsized l))) (after_moves true (parts_for s l) (gap_size (unsized l)))

unfoldable pub remainder_of : Side → Line → ℤ
remainder_of s l = signed_of (shrinks (unsized l)) (line_left true (parts_for s l) (gap_size (unsized l)))

-- ---- the verdicts

-- those of the glyphs from a place on, with their classes and their two movements
unfoldable pub verdicts_from : Side → ℕ → ℕ → List ℕ → List ℕ → List ℤ → List ℤ → List Verdict
verdicts_from s size place [] cs bs fs = []
verdicts_from s size place (g ∷ gs) [] bs fs = []
verdicts_from s size place (g ∷ gs) (c ∷ cs) [] fs = []
verdicts_from s size place (g ∷ gs) (c ∷ cs) (b ∷ bs) [] = []
verdicts_from s size place (g ∷ gs) (c ∷ cs) (b ∷ bs) (f ∷ fs) =
    firings place c size (b +ℤ f) 0 (get_or s.lists g []) ++ verdicts_from s size (suc place) gs cs bs fs

unfoldable pub verdicts_of : Side → Line → List Verdict
verdicts_of s l = verdicts_from s l.size 0 l.glyphs (classes_of (walk_of s.machine (unsized l))) (before_of s l) (after_of s l)

-- ---- what bars a line

-- 9: the advances, and each slice that is lent with a place for every glyph, have the glyphs' number
abbrev pub equal_lengths : Line → List ℕ → Bool
equal_lengths l lengths = all_long (length l.glyphs) (length l.advances ∷ lengths)

-- 9 to 11, by the lengths of what is lent
abbrev pub input_tests : Line → List ℕ → List FirstFault
input_tests l lengths =
    rule (equal_lengths l lengths) UnequalLengths 0
    ∷ rule (leb (length l.glyphs) 1024) LongLine 0
    ∷ rule (leb 1 l.size && leb l.size 67108864) PointSize 0
    ∷ []

-- 12 to 15, by the meaning of its direction
abbrev pub work_tests : Side → ℕ → Line → List FirstFault
work_tests s n l =
    rule (good_advances (unsized l)) Advances 0
    ∷ rule (all_known n l.glyphs) UnknownGlyph 0
    ∷ rule (has_stopped (walk_of s.machine (unsized l))) EndlessWalk 0
    ∷ rule (line_fits (parts_for s l)) StageTotal 0
    ∷ []

-- 16: there is room for its verdicts
abbrev pub room_test : Side → Line → ℕ → FirstFault
room_test s l room = rule (leb (length (verdicts_of s l)) room) ShortRoom 0

-- the first fault of all, the table's before the line's
unfoldable pub line_fault : List ℕ → ℕ → Line → Lent → FirstFault
line_fault t n l b =
    first_fault (table_fault t n ∷ (input_tests l (lengths_of b) ++ work_tests (side_of l.direction (meaning_of t n)) n l))
    then room_test (side_of l.direction (meaning_of t n)) l (length b.verdicts)

-- ---- the outcome

-- a refusal is its number and offset alone, and changes no buffer; else every class and movement is stored, and the verdicts at the front of their room, the rest of
-- which stays as it was
abbrev pub settled : FirstFault → Side → Line → Lent → Outcome
settled (Err f) s l b = record { answer = refuses (number_of f.refusal) f.at; lent = b }
settled (Ok u) s l b =
    record {
      answer = justifies (remainder_of s l) (entries_of (walk_of s.machine (unsized l))) (length (verdicts_of s l));
      lent =
          record {
            classes = classes_of (walk_of s.machine (unsized l));
            before = before_of s l;
            after = after_of s l;
            verdicts = verdicts_of s l ++ drop (length (verdicts_of s l)) b.verdicts;
          };
    }

unfoldable pub justified : List ℕ → ℕ → Line → Lent → Outcome
justified t n l b = settled (line_fault t n l b) (side_of l.direction (meaning_of t n)) l b
