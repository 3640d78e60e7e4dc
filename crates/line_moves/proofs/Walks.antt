-- The walk of a line by a direction's machine in the table's bytes is its walk by the machine of the table's meaning.
use Prim.Native.Nat.{ℕ, zero, suc, ◌+◌, ◌*◌, ◌≤◌, ◌<◌, ◌^◌}
use mathlib.Core.Path.{◌≡◌, refl, sym, ap, ◌∙◌, subst}
use mathlib.Core.Logic.{◌⊎◌, inl, inr}
use mathlib.Core.Bool.{Bool, true, false, cond}
use mathlib.Core.Option.{Option, none, some}
use mathlib.Core.List.{List, [], ◌∷◌, map}
use native.Mathlib.Omega.{arith}
use native.Mathlib.Decide.{ℕ_discrete}
use lib.Dec.{ltb}
use lib.ListN.{length, get_or, replicate, length-map, length-replicate}
use borrow.Author.Tests.{eq-eqb, ne_eqb, ltb-true}
use Rattle.fields.specs.Faults.{Clear}
use Rattle.types.specs.declared.Direction.{Direction}
use Rattle.types.specs.declared.Entry.{Entry}
use Rattle.units.specs.Flags.{stays}
use Rattle.encoding.proofs.UptoLaws.{get_or-upto}
use Rattle.meaning.specs.Meaning.{Side}
use Rattle.meaning.specs.Meaning as meaning
use Rattle.meaning.specs.Ask.{side_of}
use Rattle.machine.specs.Cells.{class_count, class_at, cell_at}
use Rattle.machine.specs.Rows.{row_count}
use Rattle.machine.specs.Machine.{machine_fault}
use Rattle.machine.proofs.Laws.{row_count-least, rows-two, rows-most, classes-least, classes-most, class-below, cell-exact}
use Rattle.table.specs.Table.{direction_at, machine_part, table_fault}
use Rattle.table.proofs.Laws.{present-some, direction-clear}
use Rattle.table.proofs.Laws as table
use Rattle.table.specs.Means.{cell_by, machine_of, meaning_of}
use Rattle.table.specs.Means as means
use Rattle.table_ask.specs.Places.{machine_in}
use Rattle.table_ask.proofs.Rows.{cell-by, index_below}
use Rattle.table_ask.proofs.Asked.{side-is, machine-is}
use Rattle.class_walk.specs.Walk.{Machine, Line, Conf, Walk, going, stopped, Fits, glyphs, column_at, met, on_at, given_by, taken, step, begin, after, most_entries, walked, no_walk}
use Rattle.class_walk.specs.Line.{machine_at, line_of, line_column, line_columns, HandedOut, SoundMachine, Columns}
use Rattle.std.proofs.Common.{Some, None}
use Rattle.std.specs.Prelude as std
use Rattle.class_walk.proofs.Laws.{walked-ends, ends-length}
use Rattle.class_walk.proofs.Line.{fits-of, columns_of_lem, handed-ended, handed-going}
use Rattle.line_rule.specs.Line.{walk_machine, column_of, walk_of, has_stopped, classes_of, entries_of}
use Rattle.line_rule.specs.Line as lines
use Rattle.line_input.specs.Input.{KnownGlyphs}

-- ---- two machines with the same cells walk alike

module _ (m m' : Machine) (l : Line) (ok : Fits m l) (same : (r c : ℕ) → r < m.rows → c < m.classes → m.cell r c ≡ m'.cell r c) where
  column-low : (place : ℕ) → column_at l.columns l.ends place < m.classes
  column-low place = go (ltb place (length l.columns)) refl l.ends
    where
      low : 4 ≤ m.classes
      low = ok.classes-low

      go : (b : Bool) → ltb place (length l.columns) ≡ b → (e : Bool) → cond b (get_or l.columns place 0) (cond e 0 3) < m.classes
      go true q e = ok.columns-low place (ltb-true _ _ q)
      go false q true = omega arith
      go false q false = omega arith

  -- where a walk goes on, it stands in a row below S
  abbrev Low : Walk → Type 0
  Low (going s) = s.row < m.rows
  Low (stopped cs k) = Unit {0}

  low-taken : (s : Conf) → s.row < m.rows → Low (taken (met m l s) l s)
  unfolding taken
  low-taken s h = go (stays (met m l s).flags) (ltb s.place (glyphs l))
    where
      next : (met m l s).row < m.rows
      next = ok.closed s.row (column_at l.columns l.ends s.place) h (column-low s.place)

      go : (a b : Bool)
          → Low (cond a (going (on_at s.place (met m l s) l s)) (cond b (going (on_at (s.place + 1) (met m l s) l s)) (stopped (given_by (met m l s) l s) (s.count + 1))))
      go true b = next
      go false true = next
      go false false = tt

  low-after : (n : ℕ) → Low (after m l n)
  unfolding after begin step
  low-after zero = go l.starts
    where
      two : 2 ≤ m.rows
      two = ok.rows-low

      go : (b : Bool) → cond b 0 1 < m.rows
      go true = omega arith
      go false = omega arith
  low-after (suc n) = go (after m l n) (low-after n)
    where
      go : (w : Walk) → Low w → Low (step m l w)
      go (going s) h = low-taken s h
      go (stopped cs k) h = tt

  same_step : (w : Walk) → Low w → step m l w ≡ step m' l w
  unfolding step
  same_step (going s) h = ap (λ (e : Entry). taken e l s) (same s.row (column_at l.columns l.ends s.place) h (column-low s.place))
  same_step (stopped cs k) h = refl

  same_after : (n : ℕ) → after m l n ≡ after m' l n
  unfolding after
  same_after zero = refl
  same_after (suc n) = same_step (after m l n) (low-after n) ∙ ap (step m' l) (same_after n)

  pub same-walked : m.rows ≡ m'.rows → walked m l ≡ walked m' l
  unfolding walked
  same-walked e = same_after (most_entries m l) ∙ ap (λ (r : ℕ). after m' l (r * (glyphs l + 1))) e

-- ---- the machine in the table's bytes, and that of the meaning

module _ (t : List ℕ) (n here : ℕ) where
  same-cells : (r c : ℕ) → r < row_count t here → c < class_count t here → cell_at t here r c ≡ (walk_machine (means.machine_at t n here)).cell r c
  unfolding means.machine_at
  same-cells r c h k =
      sym (get_or-upto (cell_by t here) (row_count t here * class_count t here) (r * class_count t here + c) (record { row = 0; flags = 0 }) (index_below _ _ r c h k) ∙ cell-by t here r c)

  same-columns : (gs : List ℕ) → KnownGlyphs n gs → line_columns t here gs ≡ map (column_of (means.machine_at t n here)) gs
  unfolding means.machine_at
  same-columns [] w = refl
  same-columns (g ∷ gs) w = rw (one (ℕ_discrete g 0xFFFF) (w 0 (omega arith)), same-columns gs (λ place h. w (suc place) (omega arith)))
    where
      one : Dec (g ≡ 0xFFFF) → (g ≡ 0xFFFF) ⊎ (g < n) → line_column t here g ≡ column_of (means.machine_at t n here) g
      one (yes e) w = rw (eq-eqb g 0xFFFF e)
      one (no e) (inl q) = absurd (e q)
      one (no e) (inr q) = rw (ne_eqb g 0xFFFF e, get_or-upto (class_at t here) n g 1 q)

  module _ (near : here < 2 ^ 32) (clear : machine_fault t n here ≡ Clear) where
    pub sound : SoundMachine t here
    sound =
        record {
          near = near;
          rows-low = rows-two t n here clear;
          rows-high = rows-most t n here clear;
          classes-low = classes-least t n here clear;
          classes-high = classes-most t n here clear;
          closed = (row_count-least t n here clear).closed;
          exact = cell-exact t n here clear;
        }

    module _ (l : lines.Line) (short : length l.glyphs ≤ 1024) (known : KnownGlyphs n l.glyphs) where
      pub columns : Columns t here (line_columns t here l.glyphs)
      columns = columns_of_lem t here n (classes-least t n here clear) (class-below t n here clear) l.glyphs short known

      pub same-walk : walked (machine_at t here) (line_of (line_columns t here l.glyphs) l.starts l.ends) ≡ walk_of (some (means.machine_at t n here)) l
      unfolding walk_of means.machine_at
      same-walk =
          same-walked (machine_at t here) (walk_machine (means.machine_at t n here)) (line_of (line_columns t here l.glyphs) l.starts l.ends)
          (fits-of l.starts l.ends sound columns) same-cells refl
          ∙ ap (λ (ks : List ℕ). walked (walk_machine (means.machine_at t n here)) (line_of ks l.starts l.ends)) (same-columns l.glyphs known)

-- ---- a direction's machine

module _ (t : List ℕ) (n : ℕ) (d : Direction) where
  machine-of : (side_of d (meaning_of t n)).machine ≡ machine_of t n (machine_in t d)
  machine-of = ap (λ (s : Side). s.machine) (side-is t n d) ∙ machine-is t n d

  module _ (o : ℕ) (e : o ≡ machine_in t d) where
    pub none-there : o ≡ 0 → (side_of d (meaning_of t n)).machine ≡ none
    unfolding machine_of
    none-there z = machine-of ∙ ap (machine_of t n) (sym e) ∙ rw (eq-eqb o 0 z)

    pub one-there : (o ≡ 0 → ⊥) → (side_of d (meaning_of t n)).machine ≡ some (means.machine_at t n (o + 8))
    unfolding machine_of
    one-there z = machine-of ∙ ap (machine_of t n) (sym e) ∙ rw (ne_eqb o 0 z)

    pub machine-clear : table_fault t n ≡ Clear → (o ≡ 0 → ⊥) → machine_fault t n (o + 8) ≡ Clear
    unfolding machine_part machine_in
    machine-clear ok z =
        sym (present-some o _ z) ∙ ap (machine_part t n) e ∙ table.machine-clear t (direction_at t d) n (direction-clear t n ok d)

    -- no machine: every class 0, no entry taken
    pub no_walk_lem : o ≡ 0 → (l : lines.Line) → walk_of (side_of d (meaning_of t n)).machine l ≡ no_walk (line_of l.glyphs l.starts l.ends)
    unfolding walk_of
    no_walk_lem z l = ap (λ (m : Option meaning.Machine). walk_of m l) (none-there z)

    pub a-walk : (z : o ≡ 0 → ⊥) (near : o + 8 < 2 ^ 32) (ok : table_fault t n ≡ Clear) (l : lines.Line) → length l.glyphs ≤ 1024 → KnownGlyphs n l.glyphs
        → walked (machine_at t (o + 8)) (line_of (line_columns t (o + 8) l.glyphs) l.starts l.ends) ≡ walk_of (side_of d (meaning_of t n)).machine l
    a-walk z near ok l short known =
        same-walk t n (o + 8) near (machine-clear ok z) l short known
        ∙ ap (λ (m : Option meaning.Machine). walk_of m l) (sym (one-there z))

-- ---- a walk of any machine, as it was handed out

-- a class for each glyph
pub walk-length : (m : Option meaning.Machine) (l : lines.Line) (cs : List ℕ) (k : ℕ) → walk_of m l ≡ stopped cs k → length cs ≡ length l.glyphs
unfolding walk_of
walk-length none l cs k e = let q : replicate {A = ℕ} (length l.glyphs) 0 ≡ cs = cc in ap length (sym q) ∙ length-replicate (length l.glyphs) 0
walk-length (some m) l cs k e =
    ends-length (walk_machine m) (line_of (map (column_of m) l.glyphs) l.starts l.ends) cs k (walked-ends (walk_machine m) (line_of (map (column_of m) l.glyphs) l.starts l.ends) cs k e)
    ∙ length-map l.glyphs (column_of m)

-- what the count that `line_walk` answers, and the room that was lent it, say of a walk that ended
pub record Ended (m : Option meaning.Machine) (l : lines.Line) (k : ℕ) (room : List ℕ) : Type 0 where
  pub stops : has_stopped (walk_of m l) ≡ true
  pub classes : room ≡ classes_of (walk_of m l)
  pub count : k ≡ entries_of (walk_of m l)
  pub each : length (classes_of (walk_of m l)) ≡ length l.glyphs

module _ (m : Option meaning.Machine) (l : lines.Line) {r : std.Option ℕ} (room : List ℕ) (h : HandedOut (walk_of m l) r room) where
  pub walk-ended : (k : ℕ) → r ≡ Some k → Ended m l k room
  walk-ended k q =
      let f : walk_of m l ≡ stopped room k = handed-ended (walk_of m l) k room (subst (λ (o : std.Option ℕ). HandedOut (walk_of m l) o room) q h) in
      let s : classes_of (walk_of m l) ≡ room = ap classes_of f in
      record {
        stops = ap has_stopped f;
        classes = sym s;
        count = sym (ap entries_of f);
        each = ap length s ∙ walk-length m l room k f;
      }

  pub walk-endless : r ≡ None → has_stopped (walk_of m l) ≡ false
  walk-endless q = let f = handed-going (walk_of m l) room (subst (λ (o : std.Option ℕ). HandedOut (walk_of m l) o room) q h) in ap has_stopped f.1
