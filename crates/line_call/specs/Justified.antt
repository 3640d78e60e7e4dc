-- The call for a line (document 01, "Numbers of refusal", 9 to 16 after the table's, and demand 2; 18 between 10 and 11 by document 02, request 7/14): what bars it, in
-- order; the answer; and every lent buffer afterwards.
use Rattle.std.specs.Prelude.{ℕ, List, [], ◌∷◌, ◌++◌, leb, ℤ, length, drop, Result, Ok, Err}
use Rattle.fields.specs.declared.Refusal.TheVariants.{Advances, UnknownGlyph, EndlessWalk, StageTotal, ShortRoom}
use Rattle.fields.specs.declared.Fault.{Fault}
use Rattle.fields.specs.Refusals.{number_of}
use Rattle.fields.specs.Faults.{FirstFault, ◌then◌, rule, first_fault}
use Rattle.types.specs.declared.Verdict.{Verdict}
use Rattle.meaning.specs.Meaning.{Side}
use Rattle.meaning.specs.Ask.{side_of}
use Rattle.share.specs.Line.{line_fits}
use Rattle.table.specs.Table.{table_fault}
use Rattle.table.specs.Means.{meaning_of}
use Rattle.line_call.specs.declared.Justified.{Justified}
use Rattle.line_rule.specs.Line.{Line, walk_of, has_stopped, classes_of, entries_of, parts_for, before_of, after_of, remainder_of, verdicts_of}
use Rattle.line_input.specs.Input.{good_advances, all_known, input_tests}

-- what is lent: a class, a before and an after movement for each glyph, and room for verdicts
pub record Lent : Type 0 where
  pub classes : List ℕ
  pub before : List ℤ
  pub after : List ℤ
  pub verdicts : List Verdict

-- the direction of a line in the meaning of its table
abbrev pub side_for : List ℕ → ℕ → Line → Side
side_for t n l = side_of l.direction (meaning_of t n)

-- ---- what bars a line: 9, 10, 18 and 11 are `input_tests` of crates/line_input, which also has the tests of 12 and 13

-- classes and both sides' movements are lent with a place for every glyph; the verdicts are not
abbrev pub lengths_of : Lent → List ℕ
lengths_of b = length b.classes ∷ length b.before ∷ length b.after ∷ []

-- 12 to 15, by the meaning of its direction
abbrev pub work_tests : Side → ℕ → Line → List FirstFault
work_tests s n l =
    rule (good_advances l) Advances 0
    ∷ rule (all_known n l.glyphs) UnknownGlyph 0
    ∷ rule (has_stopped (walk_of s.machine l)) EndlessWalk 0
    ∷ rule (line_fits (parts_for s l)) StageTotal 0
    ∷ []

-- 16: there is room for its verdicts
abbrev pub room_test : Side → Line → ℕ → FirstFault
room_test s l room = rule (leb (length (verdicts_of s l)) room) ShortRoom 0

-- the first fault up to 15, the table's before the line's: what bars a line whose verdicts are not stored
unfoldable pub worked_fault : List ℕ → ℕ → Line → List ℕ → FirstFault
worked_fault t n l lengths = first_fault (table_fault t n ∷ (input_tests l lengths ++ work_tests (side_for t n l) n l))

-- the first fault of all
unfoldable pub line_fault : List ℕ → ℕ → Line → Lent → FirstFault
line_fault t n l b = worked_fault t n l (lengths_of b) then room_test (side_for t n l) l (length b.verdicts)

-- ---- the outcome

-- what an answer says: the remainder, the count of entries taken and the count of verdicts; or a refusal's number and offset
pub data LineReply : Type 0 where
  justifies : ℤ → ℕ → ℕ → LineReply
  refuses : ℕ → ℕ → LineReply

abbrev pub says_line : Result Justified Fault → LineReply
says_line (Ok j) = justifies j.remainder j.entries j.verdicts
says_line (Err f) = refuses (number_of f.refusal) f.at

-- what is answered, and what the lent buffers hold afterwards
pub record Outcome : Type 0 where
  pub answer : LineReply
  pub lent : Lent

-- a refusal is its number and offset alone (document 02, 4/14), and changes no buffer; else every class and movement is stored, and the verdicts at the front of their room, the rest of
-- which stays as it was
abbrev pub settled : FirstFault → Side → Line → Lent → Outcome
settled (Err f) s l b = record { answer = refuses (number_of f.refusal) f.at; lent = b }
settled (Ok u) s l b =
    record {
      answer = justifies (remainder_of s l) (entries_of (walk_of s.machine l)) (length (verdicts_of s l));
      lent =
          record {
            classes = classes_of (walk_of s.machine l);
            before = before_of s l;
            after = after_of s l;
            verdicts = verdicts_of s l ++ drop (length (verdicts_of s l)) b.verdicts;
          };
    }

unfoldable pub justified : List ℕ → ℕ → Line → Lent → Outcome
justified t n l b = settled (line_fault t n l b) (side_for t n l) l b
