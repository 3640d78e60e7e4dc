-- The starred lines of document 01, "Sample lines and tables": one list of cases, each with what is expected, and what it is for a case to hold. Each speaks of the
-- definition that the calls' contracts speak of: the factor, the staged rule, the verdict, the outcome of a line's call.
use Rattle.std.specs.Prelude.{ℕ, ◌≡◌, true, false, List, [], ◌∷◌, ◌++◌, ℤ, pos}
use Rattle.std.proofs.Math.Option.{none, some}
use Rattle.fields.specs.Field.{be32}
use Rattle.types.specs.declared.Entry.{Entry}
use Rattle.units.specs.Fixed.{fixed_of, factor_of}
use Rattle.units.specs.Flags.{stays}
use Rattle.meaning.specs.Meaning.{Machine}
use Rattle.share.specs.Line.{Glyph, apart, before_moves, after_moves, line_left, line_fits}
use Rattle.verdict.specs.declared.Fires.{Fires}
use Rattle.verdict.specs.declared.Fires.TheVariants.{No, Plain}
use Rattle.verdict.specs.Verdict.{fires_of}
use Rattle.table.specs.Table.{Accepted}
use Rattle.line_rule.specs.Line.{Line, walk_machine, column_of, units_of}
use Rattle.line_call.specs.Justified.{Lent, side_for, LineReply, justifies, refuses, lengths_of, justified}
use Rattle.line_input.specs.Input.{equal_lengths, good_sizes, good_advances, all_known}

-- ---- a case and what is expected of it

-- a limit, as the bits of a Fixed, and a point size; the factor, in units
pub record FactorCase : Type 0 where
  pub limit : ℕ
  pub size : ℕ
  pub units : ℕ

-- the parts of a line's glyphs and the size of the gap; the movements of the before sides, those of the after sides, and the remainder
pub record ShareCase : Type 0 where
  pub glyphs : List Glyph
  pub gap : ℕ
  pub before : List ℕ
  pub after : List ℕ
  pub left : ℕ

-- a ligature's lower and upper limit, as the bits of Fixed numbers, a point size and a growth in units; whether the ligature breaks
pub record LigatureCase : Type 0 where
  pub lower : ℕ
  pub upper : ℕ
  pub size : ℕ
  pub growth : ℤ
  pub fires : Fires

-- what a case says of a line and of the table that it is justified by
pub data Shape : Type 0 where
  -- no glyph, no machine in the line's direction, and this target
  empty : ℤ → Shape
  -- one glyph; the line does not start the text; the machine's entry for the glyph in row 1 stays and leads to row 1
  stuck : Shape

-- the shape of a line; what its call answers
pub record LineCase : Type 0 where
  pub shape : Shape
  pub answer : LineReply

pub data Case : Type 0 where
  factor : FactorCase → Case
  shares : ShareCase → Case
  ligature : LigatureCase → Case
  line : LineCase → Case

-- ---- the cases

-- 12 pt
abbrev pub twelve : ℕ
twelve = 786432

-- a glyph of a stage with this factor on its after side, and an unlimited one without factors
abbrev pub side : ℕ → ℕ → Glyph
side stage units = record { stage = stage; extra = 0; before = 0; after = units }

abbrev pub unlimited : ℕ → Glyph
unlimited stage = record { stage = stage; extra = 1; before = 0; after = 0 }

abbrev pub cases : List Case
cases =
    -- 2.5 em at 12 pt
    factor (record { limit = 163840; size = twelve; units = 1966080 })
    -- factors 3, 3, 3, and no other stage
    ∷ shares (record { glyphs = side 0 3 ∷ side 0 3 ∷ side 0 3 ∷ []; gap = 7; before = 0 ∷ 0 ∷ 0 ∷ []; after = 2 ∷ 2 ∷ 3 ∷ []; left = 0 })
    ∷ shares (record { glyphs = side 0 3 ∷ side 0 3 ∷ side 0 3 ∷ []; gap = 9; before = 0 ∷ 0 ∷ 0 ∷ []; after = 3 ∷ 3 ∷ 3 ∷ []; left = 0 })
    ∷ shares (record { glyphs = side 0 3 ∷ side 0 3 ∷ side 0 3 ∷ []; gap = 10; before = 0 ∷ 0 ∷ 0 ∷ []; after = 3 ∷ 3 ∷ 4 ∷ []; left = 0 })
    -- all factors 0, in each stage and with a glyph that takes no part
    ∷ shares (record { glyphs = side 0 0 ∷ side 1 0 ∷ side 2 0 ∷ apart ∷ []; gap = 5; before = 0 ∷ 0 ∷ 0 ∷ 0 ∷ []; after = 0 ∷ 0 ∷ 0 ∷ 0 ∷ []; left = 5 })
    -- two unlimited glyphs
    ∷ shares (record { glyphs = unlimited 0 ∷ unlimited 0 ∷ []; gap = 5; before = 0 ∷ 0 ∷ []; after = 2 ∷ 3 ∷ []; left = 0 })
    -- a ligature with lower 0 and upper 0.5 em
    ∷ ligature (record { lower = 0; upper = 32768; size = twelve; growth = pos 393216; fires = No })
    ∷ ligature (record { lower = 0; upper = 32768; size = twelve; growth = pos 393217; fires = Plain })
    -- the remainder is 4, no entry is taken, no verdict fires
    ∷ line (record { shape = empty (pos 4); answer = justifies (pos 4) 0 0 })
    ∷ line (record { shape = stuck; answer = refuses 14 0 })
    ∷ []

-- ---- what it is for a case to hold

-- the factor, as `units` works it out and as the line's rule does
pub record FactorHolds (c : FactorCase) : Type 0 where
  pub factor : factor_of (fixed_of c.limit) c.size ≡ pos c.units
  pub units : units_of c.limit c.size ≡ c.units

-- refusal 15 does not bar the gap, and the staged rule's edition 1 shares it so
pub record ShareHolds (c : ShareCase) : Type 0 where
  pub fits : line_fits c.glyphs ≡ true
  pub before : before_moves true c.glyphs c.gap ≡ c.before
  pub after : after_moves true c.glyphs c.gap ≡ c.after
  pub left : line_left true c.glyphs c.gap ≡ c.left

-- the ligature of a glyph of any class, whatever its order and its components
abbrev pub LigatureHolds : LigatureCase → Type 0
LigatureHolds c =
    (class : ℕ) (rest : List ℕ)
    → fires_of (record { class = class; ty = 0; content = be32 c.lower ++ be32 c.upper ++ rest }) class c.growth c.size ≡ c.fires

pub record Empty (target : ℤ) (t : List ℕ) (n : ℕ) (l : Line) : Type 0 where
  pub no-glyph : l.glyphs ≡ []
  pub no-machine : (side_for t n l).machine ≡ none
  pub has-target : l.target ≡ target

-- the entry for a glyph in row 1
abbrev pub entry_for : Machine → ℕ → Entry
entry_for m glyph = (walk_machine m).cell 1 (column_of m glyph)

pub record Stuck (t : List ℕ) (n : ℕ) (l : Line) : Type 0 where
  pub glyph : ℕ
  pub machine : Machine
  pub one-glyph : l.glyphs ≡ glyph ∷ []
  pub not_first : l.starts ≡ false
  pub has-machine : (side_for t n l).machine ≡ some machine
  pub entry-stays : stays (entry_for machine glyph).flags ≡ true
  pub leads-back : (entry_for machine glyph).row ≡ 1

abbrev pub Shaped : Shape → List ℕ → ℕ → Line → Type 0
Shaped (empty target) = Empty target
Shaped stuck = Stuck

-- what else a line of at most 1,024 glyphs needs to be walked: its edition is 1, as these samples', and refusals 1 to 13 do not bar it
pub record Proper (t : List ℕ) (n : ℕ) (l : Line) (b : Lent) : Type 0 where
  pub accepted : Accepted t n
  pub lengths : equal_lengths l (lengths_of b) ≡ true
  pub edition : l.edition ≡ 1
  pub sizes : good_sizes l.sizes ≡ true
  pub advances : good_advances l ≡ true
  pub known : all_known n l.glyphs ≡ true

-- there is such a line; and with every table, glyph count, line of the shape and lent buffers the call answers so and leaves each buffer as it was
pub record LineHolds (c : LineCase) : Type 0 where
  pub some-line : (t : List ℕ) × (n : ℕ) × (l : Line) × (b : Lent) × Proper t n l b × Shaped c.shape t n l
  pub each_line : (t : List ℕ) (n : ℕ) (l : Line) (b : Lent) → Proper t n l b → Shaped c.shape t n l
      → justified t n l b ≡ record { answer = c.answer; lent = b }

abbrev pub CaseHolds : Case → Type 0
CaseHolds (factor c) = FactorHolds c
CaseHolds (shares c) = ShareHolds c
CaseHolds (ligature c) = LigatureHolds c
CaseHolds (line c) = LineHolds c
