-- What holds of every line's call (document 01, demand 2): a refusal changes nothing; movements and remainder sum to the gap; when there is a remainder, in each edition, and
-- what it means in edition 2; the walk of an accepted table's machine ends as reported, or never ends; and what is stored has room.
use Prim.Native.Nat.{ℕ, zero, suc, ◌+◌, ◌*◌, ◌≤◌, ◌<◌}
use mathlib.Core.Path.{◌≡◌, refl, ap, ap₂, ◌∙◌, subst}
use mathlib.Core.Logic.{◌⊎◌, inl, inr}
use mathlib.Core.Bool.{Bool, true, false, cond}
use mathlib.Core.Option.{some}
use mathlib.Core.List.{List, [], ◌∷◌, map}
use native.Mathlib.Omega.{arith}
use native.Mathlib.Decide.{ℕ_discrete}
use lib.IntN.{ℤ, pos, negsuc, nat_abs, ◌+ℤ◌}
use lib.Signed.{lt_z}
use lib.ListN.{length, get_or, length-map}
use borrow.Author.Tests.{leb-true, eq-eqb, ne_eqb, le-ltb}
use Rattle.fields.specs.declared.Refusal.TheVariants.{UnequalLengths, LongLine, UnknownGlyph, EndlessWalk, ShortRoom}
use Rattle.fields.specs.Faults.{FirstFault}
use Rattle.std.specs.Prelude.{Ok, Err}
use Rattle.fields.specs.Faults.{Clear}
use Rattle.fields.proofs.Laws.{then-first, then-second, rule-holds}
use Rattle.meaning.specs.Meaning.{Side, Machine}
use Rattle.meaning.specs.Limits.{OkEntry, OkMachine}
use Rattle.meaning.specs.Ask.{side_of}
use Rattle.encoding.proofs.ListLaws.{all-at}
use Rattle.table.specs.Table.{table_fault}
use Rattle.table.specs.Means.{meaning_of}
use Rattle.table_ask.proofs.Rows.{index_below}
use Rattle.class_walk.specs.Walk.{Fits, Ends, Never, Walk, going, stopped}
use Rattle.class_walk.specs.Line.{line_of}
use Rattle.class_walk.proofs.Laws.{walked-ends, walked-never, ends-within}
use Rattle.share.specs.Line.{Glyph, evens, odds, line_moves, line_left, before_moves, after_moves, signed_of, nothing_moves, none_unlimited, full_moves, sumℤ}
use Rattle.share.proofs.Lines.{line-sum-signed, line-remainder, line-limits, line-full, line-lengths}
use Rattle.line_rule.specs.Line.{Line, goes_back, gap_of, shrinks, gap_size, walk_machine, column_of, walk_of, has_stopped, classes_of, entries_of, parts_for, before_of, after_of, remainder_of, verdicts_of}
use Rattle.line_rule.proofs.Still.{none-signed}
use Rattle.line_input.specs.Input.{KnownGlyphs}
use Rattle.line_moves.proofs.Walks.{walk-length}
use Rattle.line_moves.proofs.Parts.{parts-length}
use Rattle.line_call.specs.Justified.{Lent, justifies, refuses, lengths_of, worked_fault, line_fault, settled, justified}
use Rattle.line_call.specs.Settle.{stored_in}
use Rattle.line_call.specs.FullFactors.{parts_in, LimitsFull, LimitsIs}
use Rattle.line_input.proofs.Tests.{lengths-hold, known-each}

-- ---- refusals

-- A REFUSAL CHANGES NOTHING
pub refused-unchanged : (t : List ℕ) (n : ℕ) (l : Line) (b : Lent) (number at : ℕ) → (justified t n l b).answer ≡ refuses number at → (justified t n l b).lent ≡ b
unfolding justified
refused-unchanged t n l b number at e = go (line_fault t n l b) e
  where
    go : (f : FirstFault) → (settled f (side_of l.direction (meaning_of t n)) l b).answer ≡ refuses number at → (settled f (side_of l.direction (meaning_of t n)) l b).lent ≡ b
    go (Ok u) e = cc
    go (Err f) e = refl

-- a call answers with numbers exactly where nothing bars it
module _ (t : List ℕ) (n : ℕ) (l : Line) (b : Lent) where
  abbrev side : Side
  side = side_of l.direction (meaning_of t n)

  pub record Answered (z : ℤ) (k v : ℕ) : Type 0 where
    pub clear : line_fault t n l b ≡ Clear
    pub remainder : z ≡ remainder_of side l
    pub entries : k ≡ entries_of (walk_of side.machine l)
    pub verdicts : v ≡ length (verdicts_of side l)
    pub classes : (justified t n l b).lent.classes ≡ classes_of (walk_of side.machine l)
    pub before : (justified t n l b).lent.before ≡ before_of side l
    pub after : (justified t n l b).lent.after ≡ after_of side l

  pub answered : (z : ℤ) (k v : ℕ) → (justified t n l b).answer ≡ justifies z k v → Answered z k v
  unfolding justified
  answered z k v e = go (line_fault t n l b) refl e
    where
      go : (f : FirstFault) → line_fault t n l b ≡ f → (settled f side l b).answer ≡ justifies z k v → Answered z k v
      go (Err f) w e = cc
      go (Ok u) w e =
          record {
            clear = w;
            remainder = cc;
            entries = cc;
            verdicts = cc;
            classes = ap (λ (f : FirstFault). (settled f side l b).lent.classes) w;
            before = ap (λ (f : FirstFault). (settled f side l b).lent.before) w;
            after = ap (λ (f : FirstFault). (settled f side l b).lent.after) w;
          }

  -- ---- the gap

  gap-signed : signed_of (shrinks l) (gap_size l) ≡ gap_of l
  gap-signed = go (gap_of l)
    where
      go : (g : ℤ) → signed_of (lt_z g (pos 0)) (nat_abs g) ≡ g
      go (pos a) = rw (le-ltb a 0 (omega arith))
      go (negsuc a) = refl

  -- MOVEMENTS AND REMAINDER SUM TO THE GAP, to the unit, in both editions
  pub sum-is-gap : (z : ℤ) (k v : ℕ) → (justified t n l b).answer ≡ justifies z k v
      → (sumℤ (justified t n l b).lent.before +ℤ sumℤ (justified t n l b).lent.after) +ℤ z ≡ gap_of l
  unfolding before_of after_of remainder_of
  sum-is-gap z k v e =
      let w = answered z k v e in
      let ps : List Glyph = parts_for side l in
      ap₂ (λ (x y : ℤ). x +ℤ y)
      (ap₂ (λ (x y : ℤ). x +ℤ y) (ap sumℤ w.before) (ap sumℤ w.after))
      w.remainder
      ∙ line-sum-signed (goes_back l.edition) (shrinks l) ps (gap_size l)
      ∙ gap-signed

  -- WHEN THERE IS A REMAINDER in edition 1: it is the whole gap where nothing can move, and 0 otherwise
  pub remainder_is : (z : ℤ) (k v : ℕ) → l.edition ≡ 1 → (justified t n l b).answer ≡ justifies z k v → z ≡ cond (nothing_moves (parts_for side l)) (gap_of l) (pos 0)
  unfolding remainder_of
  remainder_is z k v one e =
      (answered z k v e).remainder
      ∙ ap (λ (x : Bool). signed_of (shrinks l) (line_left x (parts_for side l) (gap_size l))) (ap goes_back one)
      ∙ ap (signed_of (shrinks l)) (line-remainder (parts_for side l) (gap_size l))
      ∙ go (nothing_moves (parts_for side l))
    where
      go : (c : Bool) → signed_of (shrinks l) (cond c (gap_size l) 0) ≡ cond c (gap_of l) (pos 0)
      go true = gap-signed
      go false = none-signed (shrinks l)

  -- the remainder in edition 2, which does not go back
  limits-left : (z : ℤ) (k v : ℕ) → l.edition ≡ 2 → (justified t n l b).answer ≡ justifies z k v → z ≡ signed_of (shrinks l) (line_left false (parts_for side l) (gap_size l))
  unfolding remainder_of
  limits-left z k v two e = (answered z k v e).remainder ∙ ap (λ (x : Bool). signed_of (shrinks l) (line_left x (parts_for side l) (gap_size l))) (ap goes_back two)

  -- ---- what is stored

  last-clear : line_fault t n l b ≡ Clear → length (verdicts_of side l) ≤ length b.verdicts
  unfolding line_fault
  last-clear e = leb-true _ _ (rule-holds _ ShortRoom 0 (then-second _ _ e))

  -- THE VERDICTS HAVE ROOM
  pub stored-fits : stored_in (justified t n l b).answer ≤ length b.verdicts
  unfolding justified
  stored-fits = go (line_fault t n l b) refl
    where
      go : (f : FirstFault) → line_fault t n l b ≡ f → stored_in (settled f side l b).answer ≤ length b.verdicts
      go (Ok u) e = last-clear e
      go (Err f) e = omega arith

  -- what a line that nothing bars has: an accepted table, and a class and two movements for each of at most 1,024 glyphs
  pub record Cleared : Type 0 where
    pub accepted : table_fault t n ≡ Clear
    pub short : length l.glyphs ≤ 1024
    pub known : KnownGlyphs n l.glyphs
    pub stops : has_stopped (walk_of side.machine l) ≡ true
    pub classes : length (classes_of (walk_of side.machine l)) ≡ length l.glyphs
    pub before : length (before_of side l) ≡ length l.glyphs
    pub after : length (after_of side l) ≡ length l.glyphs

  each-class : (w : Walk) → walk_of side.machine l ≡ w → has_stopped w ≡ true → length (classes_of w) ≡ length l.glyphs
  each-class (going c) e h = cc
  each-class (stopped cs k) e h = walk-length side.machine l cs k e

  worked-clear : line_fault t n l b ≡ Clear → worked_fault t n l (lengths_of b) ≡ Clear
  unfolding line_fault
  worked-clear e = then-first _ _ e

  pub cleared : line_fault t n l b ≡ Clear → Cleared
  unfolding worked_fault before_of after_of
  cleared w =
      let e = worked-clear w in
      let e9 = then-second _ _ e in
      let e10 = then-second _ _ e9 in
      let e18 = then-second _ _ e10 in
      let e11 = then-second _ _ e18 in
      let e13 = then-second _ _ (then-second _ _ e11) in
      let e14 = then-second _ _ e13 in
      let stops = rule-holds _ EndlessWalk 0 (then-first _ _ e14) in
      let classes = each-class (walk_of side.machine l) refl stops in
      let long = lengths-hold (length l.glyphs) _ _ _ _ _ (rule-holds _ UnequalLengths 0 (then-first _ _ e9)) in
      let parts = parts-length side (shrinks l) l.sizes l.glyphs (classes_of (walk_of side.machine l)) long.0 classes in
      let moves = line-lengths (goes_back l.edition) (parts_for side l) (gap_size l) in
      record {
        accepted = then-first _ _ e;
        short = leb-true _ _ (rule-holds _ LongLine 0 (then-first _ _ e10));
        known = known-each n l.glyphs (rule-holds _ UnknownGlyph 0 (then-first _ _ e13));
        stops = stops;
        classes = classes;
        before = length-map (before_moves (goes_back l.edition) (parts_for side l) (gap_size l)) (signed_of (shrinks l)) ∙ moves.0 ∙ parts;
        after = length-map (after_moves (goes_back l.edition) (parts_for side l) (gap_size l)) (signed_of (shrinks l)) ∙ moves.1 ∙ parts;
      }

-- ---- edition 2

-- WHEN THERE IS A REMAINDER in edition 2
pub limits-is : LimitsIs
limits-is t n l b z k v two e = limits-left t n l b z k v two e ∙ ap (signed_of (shrinks l)) (line-limits (parts_in t n l) (gap_size l))

-- FULL FACTORS: what a remainder other than 0 means in edition 2
pub limits-full : LimitsFull
unfolding before_of after_of
limits-full t n l b z k v two e other =
    let w = answered t n l b z k v e in
    let m = ap (λ (x : Bool). line_moves x (parts_in t n l) (gap_size l)) (ap goes_back two) ∙ full.0 in
    record {
      before = w.before ∙ ap (λ (x : List ℕ). map (signed_of (shrinks l)) (evens x)) m;
      after = w.after ∙ ap (λ (x : List ℕ). map (signed_of (shrinks l)) (odds x)) m;
      limited = full.1;
    }
  where
    above : (x : ℕ) → (x ≡ 0 → ⊥) → 0 < x
    above zero h = absurd (h refl)
    above (suc x) h = omega arith

    full : (line_moves false (parts_in t n l) (gap_size l) ≡ full_moves (parts_in t n l)) × (none_unlimited (parts_in t n l) ≡ true)
    full = line-full (parts_in t n l) (gap_size l)
        (above (line_left false (parts_in t n l) (gap_size l)) (λ q. other (limits-left t n l b z k v two e ∙ ap (signed_of (shrinks l)) q ∙ none-signed (shrinks l))))

-- ---- the class walk

-- a machine that keeps its limits, and a line of known glyphs, fit each other
module _ (n : ℕ) (m : Machine) (ok : OkMachine n m) (gs : List ℕ) (known : KnownGlyphs n gs) (starts ends : Bool) where
  column-low : (g : ℕ) → (g ≡ 0xFFFF) ⊎ (g < n) → column_of m g < m.classes
  column-low g w = go (ℕ_discrete g 0xFFFF) w
    where
      four : 4 ≤ m.classes
      four = ok.some-classes

      go : Dec (g ≡ 0xFFFF) → (g ≡ 0xFFFF) ⊎ (g < n) → column_of m g < m.classes
      go (yes e) w = rw (eq-eqb g 0xFFFF e) (omega arith)
      go (no e) (inl q) = absurd (e q)
      go (no e) (inr q) = rw (ne_eqb g 0xFFFF e) (all-at (λ (c : ℕ). c < m.classes) m.columns 1 g ok.columns (omega (arith, ok.column-count)))

  columns-low : (xs : List ℕ) → KnownGlyphs n xs → (place : ℕ) → place < length (map (column_of m) xs) → get_or (map (column_of m) xs) place 0 < m.classes
  columns-low [] w place h = absurd (omega arith)
  columns-low (x ∷ xs) w zero h = column-low x (w 0 (omega arith))
  columns-low (x ∷ xs) w (suc place) h = columns-low xs (λ i q. w (suc i) (omega arith)) place (omega arith)

  pub walk-fits : Fits (walk_machine m) (line_of (map (column_of m) gs) starts ends)
  walk-fits =
      record {
        rows-low = ok.some-rows;
        classes-low = ok.some-classes;
        closed = λ row class h k. (all-at (OkEntry m.rows) m.cells (record { row = 0; flags = 0 }) (row * m.classes + class) ok.cells (omega (arith, ok.cell-count, index_below m.rows m.classes row class h k))).0;
        columns-low = columns-low gs known;
      }

module _ (n : ℕ) (m : Machine) (ok : OkMachine n m) (l : Line) (known : KnownGlyphs n l.glyphs) where
  -- THE WALK ENDS with the classes and the count that are reported, and takes at most S × (glyphs + 1) entries
  pub walk_ends : has_stopped (walk_of (some m) l) ≡ true
      → Ends (walk_machine m) (line_of (map (column_of m) l.glyphs) l.starts l.ends) (classes_of (walk_of (some m) l)) (entries_of (walk_of (some m) l))
      × (entries_of (walk_of (some m) l) ≤ m.rows * (length l.glyphs + 1))
  unfolding walk_of
  walk_ends h = go (walk_of (some m) l) refl h
    where
      go : (w : Walk) → walk_of (some m) l ≡ w → has_stopped w ≡ true
          → Ends (walk_machine m) (line_of (map (column_of m) l.glyphs) l.starts l.ends) (classes_of w) (entries_of w)
          × (entries_of w ≤ m.rows * (length l.glyphs + 1))
      go (going c) e h = cc
      go (stopped cs k) e h =
          let w = walked-ends (walk_machine m) (line_of (map (column_of m) l.glyphs) l.starts l.ends) cs k e in
          let q = (ends-within (walk_machine m) (line_of (map (column_of m) l.glyphs) l.starts l.ends) (walk-fits n m ok l.glyphs known l.starts l.ends) cs k w).0 in
          (w, subst (λ (x : ℕ). k ≤ m.rows * (x + 1)) (length-map l.glyphs (column_of m)) q)

  -- REFUSAL 14: a walk that has not stopped never ends
  pub walk-never : has_stopped (walk_of (some m) l) ≡ false → Never (walk_machine m) (line_of (map (column_of m) l.glyphs) l.starts l.ends)
  unfolding walk_of
  walk-never h = go (walk_of (some m) l) refl h
    where
      go : (w : Walk) → walk_of (some m) l ≡ w → has_stopped w ≡ false → Never (walk_machine m) (line_of (map (column_of m) l.glyphs) l.starts l.ends)
      go (going c) e h =
          walked-never (walk_machine m) (line_of (map (column_of m) l.glyphs) l.starts l.ends) (walk-fits n m ok l.glyphs known l.starts l.ends) c e
      go (stopped cs k) e h = cc
