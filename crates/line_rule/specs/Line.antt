-- A line as it is handed in, and what is worked out of it by the meaning of one direction (document 01, "The class walk", "Sharing the gap" and
-- "Verdicts"), in document order: the gap, the classes, the records, the factors, the stages, the movements with their signs, the verdicts.
use Rattle.std.specs.Prelude.{ℕ, suc, ◌+◌, ◌*◌, ◌/◌, Bool, true, false, cond, ◌||◌, List, [], ◌∷◌, ◌++◌, map, eqb, ℤ, pos, nat_abs, ◌+ℤ◌, ◌-ℤ◌, get_or}
use Rattle.std.proofs.Math.Option.{Option, none, some}
use Rattle.std.specs.Int.Signed.{lt_z}
use Rattle.types.specs.declared.Direction.{Direction}
use Rattle.types.specs.declared.Pair.{Pair}
use Rattle.types.specs.declared.Verdict.{Verdict}
use Rattle.units.specs.Flags.{is_unlimited, priority_of}
use Rattle.meaning.specs.Meaning.{Machine, Action, Side}
use Rattle.meaning.specs.Ask.{record_of}
use Rattle.class_walk.specs.Walk.{Walk, going, stopped, walked, no_walk}
use Rattle.class_walk.specs.Walk as walk
use Rattle.class_walk.specs.Line.{line_of}
use Rattle.share.specs.Line.{Glyph, apart, before_moves, after_moves, line_left, signed_of, sumℤ}
use Rattle.verdict.specs.declared.Fires.{Fires}
use Rattle.verdict.specs.declared.Fires.TheVariants.{No, Plain, Substitutes}
use Rattle.verdict.specs.Verdict.{fires_of}

-- a line: its direction, whether it starts and ends the text, its glyphs with the point size (document 02, request 5/14) and the advance of each, its target, in units,
-- and the edition of the rule that shares its gap (document 02, request 7/14)
pub record Line : Type 0 where
  pub direction : Direction
  pub starts : Bool
  pub ends : Bool
  pub sizes : List ℕ
  pub glyphs : List ℕ
  pub advances : List ℤ
  pub target : ℤ
  pub edition : ℕ

-- ---- the editions

-- edition 1 goes back, by step 3; edition 2 stops at the limits, and what is left after stage 3 is its remainder. No other goes back either: the call refuses it before
-- anything is shared
abbrev pub goes_back : ℕ → Bool
goes_back edition = eqb edition 1

abbrev pub known_edition : ℕ → Bool
known_edition edition = goes_back edition || eqb edition 2

-- ---- the gap

-- the target less the advances; the line shrinks where it is negative, and the rule works on its size
unfoldable pub gap_of : Line → ℤ
gap_of l = l.target -ℤ sumℤ l.advances

abbrev pub shrinks : Line → Bool
shrinks l = lt_z (gap_of l) (pos 0)

abbrev pub gap_size : Line → ℕ
gap_size l = nat_abs (gap_of l)

-- ---- the classes

-- the machine of a meaning, as the walk has it: the entry of a row and a class
abbrev pub walk_machine : Machine → walk.Machine
walk_machine m =
    record {
      rows = m.rows;
      classes = m.classes;
      cell = λ r c. get_or m.cells (r * m.classes + c) (record { row = 0; flags = 0 });
    }

-- the machine's class of a glyph of the line: 2 for a deleted one
abbrev pub column_of : Machine → ℕ → ℕ
column_of m g = cond (eqb g 0xFFFF) 2 (get_or m.columns g 1)

-- the walk of the line, after as many steps as a walk that ends can take; with no machine every class is 0 and no entry is taken
unfoldable pub walk_of : Option Machine → Line → Walk
walk_of none l = no_walk (line_of l.glyphs l.starts l.ends)
walk_of (some m) l = walked (walk_machine m) (line_of (map (column_of m) l.glyphs) l.starts l.ends)

-- whether it has stopped, with which classes, after how many entries
abbrev pub has_stopped : Walk → Bool
has_stopped (going s) = false
has_stopped (stopped cs k) = true

abbrev pub classes_of : Walk → List ℕ
classes_of (going s) = []
classes_of (stopped cs k) = cs

abbrev pub entries_of : Walk → ℕ
entries_of (going s) = 0
entries_of (stopped cs k) = k

-- ---- the records and the factors

-- a glyph's width record for its class; a deleted glyph, and any that the font has not, has none
abbrev pub record_for : Side → ℕ → ℕ → Option Pair
record_for s g c = record_of c (get_or s.clusters g [])

-- limit × size / 65,536, rounded down, in units
abbrev pub units_of : ℕ → ℕ → ℕ
units_of limit size = limit * size / 65536

-- the stage of a priority is its number, the null priority's too (document 02, request 2/14)
abbrev pub stage_of : ℕ → ℕ
stage_of flags = priority_of flags

-- a glyph's part by the flags and limits of one direction of the gap
abbrev pub part_by : ℕ → ℕ → ℕ → ℕ → Glyph
part_by size flags before after =
    record {
      stage = stage_of flags;
      extra = cond (is_unlimited flags) 1 0;
      before = units_of before size;
      after = units_of after size;
    }

-- a glyph's part: by shrink limits and flags where the line shrinks, else by grow ones; with no record none
abbrev pub part_of : Bool → ℕ → Option Pair → Glyph
part_of shrink size none = apart
part_of true size (some p) = part_by size p.flags.shrink p.before.shrink p.after.shrink
part_of false size (some p) = part_by size p.flags.grow p.before.grow p.after.grow

-- the parts of the line's glyphs, each at its own size, with their classes
unfoldable pub parts_of : Side → Bool → List ℕ → List ℕ → List ℕ → List Glyph
parts_of s shrink [] gs cs = []
parts_of s shrink (z ∷ zs) [] cs = []
parts_of s shrink (z ∷ zs) (g ∷ gs) [] = []
parts_of s shrink (z ∷ zs) (g ∷ gs) (c ∷ cs) = part_of shrink z (record_for s g c) ∷ parts_of s shrink zs gs cs

-- ---- the movements

abbrev pub parts_for : Side → Line → List Glyph
parts_for s l = parts_of s (shrinks l) l.sizes l.glyphs (classes_of (walk_of s.machine l))

unfoldable pub before_of : Side → Line → List ℤ
before_of s l = map (signed_of (shrinks l)) (before_moves (goes_back l.edition) (parts_for s l) (gap_size l))

unfoldable pub after_of : Side → Line → List ℤ
after_of s l = map (signed_of (shrinks l)) (after_moves (goes_back l.edition) (parts_for s l) (gap_size l))

unfoldable pub remainder_of : Side → Line → ℤ
remainder_of s l = signed_of (shrinks l) (line_left (goes_back l.edition) (parts_for s l) (gap_size l))

-- ---- the verdicts

-- 1 in a record that substitutes, 0 in a plain one
abbrev pub record_if : Fires → ℕ → ℕ → List Verdict
record_if No place number = []
record_if Plain place number = record { place = place; action = number; substitutes = 0 } ∷ []
record_if Substitutes place number = record { place = place; action = number; substitutes = 1 } ∷ []

-- the firings of a glyph's actions, in list order; `number` counts all of the list
unfoldable pub firings : ℕ → ℕ → ℕ → ℤ → ℕ → List Action → List Verdict
firings place class size growth number [] = []
firings place class size growth number (a ∷ rest) =
    record_if (fires_of a class growth size) place number ++ firings place class size growth (suc number) rest

-- those of the glyphs from a place on, each at its own size, with their classes and their two movements
unfoldable pub verdicts_from : Side → ℕ → List ℕ → List ℕ → List ℕ → List ℤ → List ℤ → List Verdict
verdicts_from s place [] gs cs bs fs = []
verdicts_from s place (z ∷ zs) [] cs bs fs = []
verdicts_from s place (z ∷ zs) (g ∷ gs) [] bs fs = []
verdicts_from s place (z ∷ zs) (g ∷ gs) (c ∷ cs) [] fs = []
verdicts_from s place (z ∷ zs) (g ∷ gs) (c ∷ cs) (b ∷ bs) [] = []
verdicts_from s place (z ∷ zs) (g ∷ gs) (c ∷ cs) (b ∷ bs) (f ∷ fs) =
    firings place c z (b +ℤ f) 0 (get_or s.lists g []) ++ verdicts_from s (suc place) zs gs cs bs fs

unfoldable pub verdicts_of : Side → Line → List Verdict
verdicts_of s l = verdicts_from s 0 l.sizes l.glyphs (classes_of (walk_of s.machine l)) (before_of s l) (after_of s l)
