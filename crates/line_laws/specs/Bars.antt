-- What bars a line (document 01, "Numbers of refusal", 9 to 16, and document 02, request 7/14, 18), each in plain words, and in their order after the table's.
use Rattle.std.specs.Prelude.{ℕ, ◌+◌, ◌*◌, ◌≤◌, ◌<◌, ◌≡◌, ◌⊎◌, List, [], ◌∷◌, ◌++◌, map, pos, length, get_or, replicate}
use Rattle.std.proofs.Math.Option.{Option, none, some}
use Rattle.fields.specs.Faults.{FirstFault}
use Rattle.meaning.specs.Meaning.{Machine}
use Rattle.class_walk.specs.Walk.{Ends, Never}
use Rattle.class_walk.specs.Walk as walk
use Rattle.class_walk.specs.Line.{line_of}
use Rattle.share.specs.Share.{total, of_stage}
use Rattle.share.specs.Line.{Glyph, side_stages, side_factors}
use Rattle.table.specs.Table.{table_fault}
use Rattle.line_rule.specs.Line.{Line, walk_machine, column_of}
use Rattle.line_input.specs.Input.{KnownGlyphs, input_tests}
use Rattle.line_call.specs.Justified.{Lent, side_for, lengths_of, work_tests, room_test}

-- what can bar a line, in order
abbrev pub line_parts : List ℕ → ℕ → Line → Lent → List FirstFault
line_parts t n l b =
    table_fault t n
    ∷ (input_tests l (lengths_of b) ++ (work_tests (side_for t n l) n l ++ (room_test (side_for t n l) l (length b.verdicts) ∷ [])))

-- ---- the tests in plain words

-- 9 does not bar it: a size, an advance, a class and two movements for each glyph
pub record OneLength (l : Line) (b : Lent) : Type 0 where
  pub sizes : length l.sizes ≡ length l.glyphs
  pub advances : length l.advances ≡ length l.glyphs
  pub classes : length b.classes ≡ length l.glyphs
  pub before : length b.before ≡ length l.glyphs
  pub after : length b.after ≡ length l.glyphs

-- 18 does not bar it: its edition is one of the two
abbrev pub KnownEdition : ℕ → Type 0
KnownEdition edition = (edition ≡ 1) ⊎ (edition ≡ 2)

-- 11 does not bar it: each size is at least 1 and at most 67,108,864, that of a deleted glyph and of one without a record too
abbrev pub Sized : List ℕ → Type 0
Sized sizes = (place : ℕ) → place < length sizes → (1 ≤ get_or sizes place 0) × (get_or sizes place 0 ≤ 67108864)

-- 11 bars it: the size at a place is too small or too great
pub record OutOfRange (sizes : List ℕ) : Type 0 where
  pub place : ℕ
  pub there : place < length sizes
  pub wrong : (get_or sizes place 0 < 1) ⊎ (67108864 < get_or sizes place 0)

-- 12 does not bar it: the advances and the target are whole numbers of units, and the sum and the target small
pub record Measured (l : Line) : Type 0 where
  pub widths : List ℕ
  pub advances : l.advances ≡ map pos widths
  pub sum : total widths ≤ 1073741823
  pub aim : ℕ
  pub target : l.target ≡ pos aim
  pub near : aim ≤ 1073741823

-- 15 does not bar the parts of its glyphs: the factor total of each of the four stages
abbrev pub stage_total : List Glyph → ℕ → ℕ
stage_total gs stage = total (of_stage stage (side_stages gs) (side_factors gs))

pub record SmallTotals (gs : List Glyph) : Type 0 where
  pub first : stage_total gs 0 ≤ 8589934592
  pub second : stage_total gs 1 ≤ 8589934592
  pub third : stage_total gs 2 ≤ 8589934592
  pub fourth : stage_total gs 3 ≤ 8589934592

-- ---- the walk

-- the line as a machine walks it: its glyphs' classes in the machine, and whether it starts and ends the text
abbrev pub walk_line : Machine → Line → walk.Line
walk_line m l = line_of (map (column_of m) l.glyphs) l.starts l.ends

-- with no machine there is no walk, so none that never ends
abbrev pub NeverEnds : Option Machine → Line → Type 0
NeverEnds none l = ⊥
NeverEnds (some m) l = Never (walk_machine m) (walk_line m l)

-- the walk ends with these classes after so many entries; with no machine every class is 0 and the count too
abbrev pub EndsWith : Option Machine → Line → List ℕ → ℕ → Type 0
EndsWith none l cs k = (cs ≡ replicate (length l.glyphs) 0) × (k ≡ 0)
EndsWith (some m) l cs k = Ends (walk_machine m) (walk_line m l) cs k × (k ≤ m.rows * (length l.glyphs + 1))

-- ---- a line that nothing before its walk bars

pub record Walkable (n : ℕ) (l : Line) (b : Lent) : Type 0 where
  pub lengths : OneLength l b
  pub short : length l.glyphs ≤ 1024
  pub edition : KnownEdition l.edition
  pub sizes : Sized l.sizes
  pub measured : Measured l
  pub known : KnownGlyphs n l.glyphs
