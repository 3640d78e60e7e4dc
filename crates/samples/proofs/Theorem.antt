-- Document 01, "Sample lines and tables": ALL STARRED LINES HOLD. Assumes nothing.
use Prim.Native.Nat.{ℕ}
use mathlib.Core.Path.{◌≡◌, refl, sym, ap, ap₂, ◌∙◌}
use mathlib.Core.Bool.{Bool, true, false}
use mathlib.Core.Option.{Option, none}
use mathlib.Core.List.{List, [], ◌∷◌, map}
use native.Mathlib.Omega.{arith}
use lib.Dec.{leb}
use lib.IntN.{ℤ, pos}
use lib.ListN.{length}
use borrow.Author.Tests.{le-leb, eq-eqb}
use Rattle.fields.specs.declared.Refusal.TheVariants.{EndlessWalk, StageTotal, ShortRoom}
use Rattle.fields.specs.Faults.{FirstFault}
use Rattle.fields.specs.Faults.{Clear, Bad}
use Rattle.fields.specs.Field.{u16_at, u32_at}
use Rattle.fields.specs.Faults.{◌then◌, rule}
use Rattle.fields.proofs.Laws.{then-go, then-stop, rule-clear, rule-fails}
use Rattle.encoding.specs.Codes.{All}
use Rattle.units.specs.Fixed.{factor_of}
use Rattle.types.specs.declared.Direction.{Direction}
use Rattle.types.specs.declared.Verdict.{Verdict}
use Rattle.meaning.specs.Meaning.{Machine, Side}
use Rattle.class_walk.specs.Walk.{Never, Walk, stopped, walked}
use Rattle.class_walk.specs.Line.{line_of}
use Rattle.class_walk.proofs.Laws.{never_walked}
use Rattle.class_walk.proofs.Samples.{sample-never}
use Rattle.share.specs.Share.{shares, stage_moves, stage_left, stages, moves_by, left_by}
use Rattle.share.specs.Line.{line_moves, line_left, line_fits}
use Rattle.verdict.specs.Verdict.{breaks, type_fires, fires_of}
use Rattle.table.specs.Table.{Accepted}
use Rattle.line_rule.specs.Line.{Line, known_edition, gap_of, walk_machine, column_of, walk_of, has_stopped, classes_of, entries_of, parts_of, parts_for, before_of, after_of, remainder_of, verdicts_from, verdicts_of}
use Rattle.line_call.specs.Justified.{Lent, side_for, justifies, refuses, settled, room_test, worked_fault, line_fault, justified}
use Rattle.line_rule.specs.Shape.{line_by}
use Rattle.line_call.specs.Settle.{lent_by}
use Rattle.line_input.proofs.Tests.{lengths-hold}
use Rattle.samples.specs.Samples.{Proper, Empty, Stuck, cases, CaseHolds}
use Rattle.samples.proofs.Lines.{empty-line, stuck-line}

-- ---- a line that refusals 1 to 13 do not bar

-- 14 to 16
abbrev last : Side → Line → Lent → FirstFault
last s l b =
    (rule (has_stopped (walk_of s.machine l)) EndlessWalk 0 then rule (line_fits (parts_for s l)) StageTotal 0)
    then room_test s l (length b.verdicts)

module _ (t : List ℕ) (n : ℕ) (l : Line) (b : Lent) (p : Proper t n l b) where
  left-to-bar : leb (length l.glyphs) 1024 ≡ true → line_fault t n l b ≡ last (side_for t n l) l b
  unfolding line_fault worked_fault Accepted
  left-to-bar short =
      ap (λ (f : FirstFault). f then room_test (side_for t n l) l (length b.verdicts))
      (then-go _ p.accepted
      ∙ then-go _ (rule-clear _ 0 p.lengths)
      ∙ then-go _ (rule-clear _ 0 short)
      ∙ then-go _ (rule-clear _ 0 (ap known_edition p.edition))
      ∙ then-go _ (rule-clear _ 0 p.sizes)
      ∙ then-go _ (rule-clear _ 0 p.advances)
      ∙ then-go _ (rule-clear _ 0 p.known))

-- ---- the empty line

-- what is worked out of a line without a glyph, where its direction has no machine
module _ (direction : Direction) (starts ends : Bool) (s : Side) (no-machine : s.machine ≡ none) (verdicts : List Verdict) where
  abbrev bare : Line
  bare = line_by (record { direction = direction; starts = starts; ends = ends; target = pos 4; edition = 1 }) [] [] []

  abbrev room : Lent
  room = lent_by [] [] [] verdicts

  bare-walk : walk_of s.machine bare ≡ stopped [] 0
  unfolding walk_of
  bare-walk = ap (λ (m : Option Machine). walk_of m bare) no-machine

  bare-clear : last s bare room ≡ Clear
  unfolding parts_of line_fits stages verdicts_of verdicts_from
  bare-clear =
      then-go _ (then-go _ (rule-clear EndlessWalk 0 (ap has_stopped bare-walk)) ∙ rule-clear StageTotal 0 refl)
      ∙ rule-clear ShortRoom 0 (le-leb 0 (length verdicts) (omega arith))

  bare-settled : settled Clear s bare room ≡ record { answer = justifies (pos 4) 0 0; lent = room }
  unfolding remainder_of before_of after_of verdicts_of verdicts_from gap_of parts_of line_left line_moves left_by moves_by stage_left stage_moves shares stages
  bare-settled =
      ap (λ (w : Walk). record {
        answer = justifies (pos 4) (entries_of w) 0;
        lent = record { classes = classes_of w; before = []; after = []; verdicts = verdicts };
      })
      bare-walk

none-long : {A : Type 0} (xs : List A) → length xs ≡ 0 → xs ≡ []
none-long [] e = refl
none-long (x ∷ xs) e = absurd (omega arith)

module _ (t : List ℕ) (n : ℕ) (l : Line) (b : Lent) (p : Proper t n l b) (e : Empty (pos 4) t n l) where
  -- a list as long as the line's glyphs
  none-as-long : {A : Type 0} (xs : List A) → length xs ≡ length l.glyphs → xs ≡ []
  none-as-long xs h = none-long xs (h ∙ ap (λ (gs : List ℕ). length gs) e.no-glyph)

  long : (length l.sizes ≡ length l.glyphs)
      × (length l.advances ≡ length l.glyphs)
      × (length b.classes ≡ length l.glyphs)
      × (length b.before ≡ length l.glyphs)
      × (length b.after ≡ length l.glyphs)
  long = lengths-hold (length l.glyphs) _ _ _ _ _ p.lengths

  -- the line with another edition and other sizes, glyphs, advances and target
  abbrev with : ℕ → List ℕ → List ℕ → List ℤ → ℤ → Line
  with edition zs gs xs z = line_by (record { direction = l.direction; starts = l.starts; ends = l.ends; target = z; edition = edition }) zs gs xs

  line-is : l ≡ bare l.direction l.starts l.ends (side_for t n l) e.no-machine b.verdicts
  line-is =
      ap₂ (λ (zs gs : List ℕ). with l.edition zs gs l.advances l.target) (none-as-long l.sizes long.0) e.no-glyph
      ∙ ap₂ (with l.edition [] []) (none-as-long l.advances long.1) e.has-target
      ∙ ap (λ (edition : ℕ). with edition [] [] [] (pos 4)) p.edition

  lent_is : b ≡ lent_by [] [] [] b.verdicts
  lent_is =
      ap (λ (cs : List ℕ). lent_by cs b.before b.after b.verdicts) (none-as-long b.classes long.2)
      ∙ ap₂ (λ (bs fs : List ℤ). lent_by [] bs fs b.verdicts) (none-as-long b.before long.3) (none-as-long b.after long.4)

  empty-clear : line_fault t n l b ≡ Clear
  empty-clear =
      let short : leb (length l.glyphs) 1024 ≡ true = ap (λ (gs : List ℕ). leb (length gs) 1024) e.no-glyph in
      left-to-bar t n l b p short
      ∙ ap₂ (last (side_for t n l)) line-is lent_is
      ∙ bare-clear l.direction l.starts l.ends (side_for t n l) e.no-machine b.verdicts

  empty_holds : justified t n l b ≡ record { answer = justifies (pos 4) 0 0; lent = b }
  unfolding justified
  empty_holds =
      ap (λ (f : FirstFault). settled f (side_for t n l) l b) empty-clear
      ∙ ap₂ (settled Clear (side_for t n l)) line-is lent_is
      ∙ bare-settled l.direction l.starts l.ends (side_for t n l) e.no-machine b.verdicts
      ∙ ap (λ (c : Lent). record { answer = justifies (pos 4) 0 0; lent = c }) (sym lent_is)

-- ---- the line that is stuck

module _ (t : List ℕ) (n : ℕ) (l : Line) (b : Lent) (p : Proper t n l b) (e : Stuck t n l) where
  never : Never (walk_machine e.machine) (line_of (column_of e.machine e.glyph ∷ []) false l.ends)
  never = sample-never (walk_machine e.machine) (column_of e.machine e.glyph) l.ends e.leads-back e.entry-stays

  not-walked : has_stopped (walk_of (side_for t n l).machine l) ≡ false
  unfolding walk_of
  not-walked =
      let m : Machine = e.machine in
      let columns : map (column_of m) l.glyphs ≡ column_of m e.glyph ∷ [] = ap (map (column_of m)) e.one-glyph in
      let w = never_walked _ _ never in
      ap (λ (o : Option Machine). has_stopped (walk_of o l)) e.has-machine
      ∙ ap₂ (λ (ks : List ℕ) (starts : Bool). has_stopped (walked (walk_machine m) (line_of ks starts l.ends))) columns e.not_first
      ∙ ap has_stopped w.1

  stuck-holds : justified t n l b ≡ record { answer = refuses 14 0; lent = b }
  unfolding justified
  stuck-holds =
      let short : leb (length l.glyphs) 1024 ≡ true = ap (λ (gs : List ℕ). leb (length gs) 1024) e.one-glyph in
      let barred : rule (has_stopped (walk_of (side_for t n l).machine l)) EndlessWalk 0 ≡ Bad EndlessWalk 0 = rule-fails EndlessWalk 0 not-walked in
      let fault : line_fault t n l b ≡ Bad EndlessWalk 0 = left-to-bar t n l b p short ∙ then-stop _ (then-stop _ barred ∙ barred) ∙ then-stop _ barred ∙ barred in
      ap (λ (f : FirstFault). settled f (side_for t n l) l b) fault

-- ---- a ligature

-- an action of the glyph's own class
own-class : (class ty : ℕ) (content : List ℕ) (g : ℤ) (size : ℕ)
    → fires_of (record { class = class; ty = ty; content = content }) class g size ≡ type_fires ty content g size
unfolding fires_of
own-class class ty content g size = rw (eq-eqb class class refl)

-- ---- all

pub all_hold : All CaseHolds cases
unfolding factor_of shares stage_moves stage_left stages moves_by left_by line_moves line_left line_fits u16_at u32_at breaks type_fires
all_hold = (
  record { factor = refl; units = refl },
  (
    record { fits = refl; before = refl; after = refl; left = refl },
    (
      record { fits = refl; before = refl; after = refl; left = refl },
      (
        record { fits = refl; before = refl; after = refl; left = refl },
        (
          record { fits = refl; before = refl; after = refl; left = refl },
          (
            record { fits = refl; before = refl; after = refl; left = refl },
            (
              (λ class rest. own-class class 0 _ _ _),
              (
                (λ class rest. own-class class 0 _ _ _),
                (
                  record { some-line = empty-line; each_line = empty_holds },
                  (
                    record { some-line = stuck-line; each_line = stuck-holds },
                    tt,
                  ),
                ),
              ),
            ),
          ),
        ),
      ),
    ),
  ),
)
