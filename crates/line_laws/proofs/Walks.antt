-- Refusal 14 and the class walk (document 01, "The class walk"): a line is refused with 14 exactly when its table is accepted, nothing before bars it and its walk never
-- ends; a line that is answered has a walk that ends, with the classes and the count that are answered.
use Prim.Native.Nat.{ℕ}
use mathlib.Core.Path.{◌≡◌, refl, sym, ap, subst}
use mathlib.Core.Logic.{◌↔◌}
use mathlib.Core.Bool.{true, false, true≢false}
use mathlib.Core.Option.{Option, none, some}
use mathlib.Core.List.{List, [], ◌∷◌}
use lib.Dec.{leb}
use lib.IntN.{ℤ}
use lib.ListN.{length}
use native.Mathlib.Omega.{arith}
use borrow.Author.Tests.{leb-true, le-leb}
use Rattle.fields.specs.declared.Refusal.TheVariants.{UnequalLengths, LongLine, UnknownEdition, PointSize, Advances, UnknownGlyph, EndlessWalk, StageTotal, ShortRoom}
use Rattle.fields.specs.Faults.{FirstFault}
use Rattle.fields.specs.Faults.{Clear, Bad}
use Rattle.fields.specs.Field.{Bytes}
use Rattle.fields.specs.Faults.{rule}
use Rattle.fields.proofs.Laws.{rule-holds, rule-clear, rule-fails}
use Rattle.encoding.specs.Codes.{All}
use Rattle.types.specs.declared.Direction.{Direction}
use Rattle.types.specs.declared.Direction.TheVariants.{Horizontal, Vertical}
use Rattle.meaning.specs.Meaning.{Machine}
use Rattle.meaning.specs.Limits.{OkMaybe, Valid}
use Rattle.meaning.specs.Ask.{side_of}
use Rattle.class_walk.proofs.Laws.{never_walked}
use Rattle.share.specs.Line.{line_fits}
use Rattle.table.specs.Table.{Accepted, table_fault}
use Rattle.table.specs.Means.{meaning_of}
use Rattle.table_laws.specs.Order.{NoFault}
use Rattle.table_laws.proofs.Faults.{rule-bad}
use Rattle.table_laws.proofs.Valid.{valid-meaning}
use Rattle.line_rule.specs.Line.{Line, known_edition, walk_machine, walk_of, has_stopped, classes_of, entries_of, parts_for}
use Rattle.line_input.specs.Input.{KnownGlyphs, equal_lengths, good_sizes, good_advances, all_known}
use Rattle.line_call.specs.Justified.{Lent, side_for, lengths_of, room_test, justifies, refuses, justified}
use Rattle.line_call.proofs.Theorems.{answered, cleared, walk_ends, walk-never}
use Rattle.line_laws.specs.Bars.{walk_line, NeverEnds, EndsWith, Walkable}
use Rattle.line_laws.proofs.Tests.{lengths-are, edition-is, sizes-are, advances-are, glyphs-are}
use Rattle.line_laws.proofs.Refusals.{Spares, table-spares, rule-spares, only-first, first-after, call-refused}

module _ (t : List ℕ) (n : ℕ) (l : Line) (b : Lent) (bytes : Bytes t) where
  side-machine : Accepted t n → OkMaybe n (side_for t n l).machine
  unfolding meaning_of
  side-machine ok = go l.direction
    where
      valid : Valid (meaning_of t n)
      valid = valid-meaning t n bytes ok

      go : (d : Direction) → OkMaybe n (side_of d (meaning_of t n)).machine
      go Horizontal = valid.horizontal.machine
      go Vertical = valid.vertical.machine

  -- ---- refusal 14

  never-of : (m : Option Machine) → OkMaybe n m → KnownGlyphs n l.glyphs → has_stopped (walk_of m l) ≡ false → NeverEnds m l
  unfolding walk_of
  never-of none ok known e = true≢false e
  never-of (some m) ok known e = walk-never n m ok l known e

  of-never : (m : Option Machine) → NeverEnds m l → has_stopped (walk_of m l) ≡ false
  unfolding walk_of
  of-never none never = absurd never
  of-never (some m) never = ap has_stopped (never_walked (walk_machine m) (walk_line m l) never).1

  -- REFUSAL 14 exactly when the table is accepted, nothing else before it bars the line, and the walk never ends
  pub endless : ((justified t n l b).answer ≡ refuses 14 0) ↔ (Accepted t n × Walkable n l b × NeverEnds (side_for t n l).machine l)
  unfolding Accepted
  endless = (
    λ e. refused (only-first ahead walks behind spared spared-behind ((call-refused t n l b EndlessWalk 0).0 e)),
    λ h. (call-refused t n l b EndlessWalk 0).1 (first-after ahead walks behind (free h.0 h.1) (rule-fails EndlessWalk 0 (of-never machine h.2))),
  )
    where
      machine : Option Machine
      machine = (side_for t n l).machine

      ahead : List FirstFault
      ahead =
          table_fault t n
          ∷ rule (equal_lengths l (lengths_of b)) UnequalLengths 0
          ∷ rule (leb (length l.glyphs) 1024) LongLine 0
          ∷ rule (known_edition l.edition) UnknownEdition 0
          ∷ rule (good_sizes l.sizes) PointSize 0
          ∷ rule (good_advances l) Advances 0
          ∷ rule (all_known n l.glyphs) UnknownGlyph 0
          ∷ []

      walks : FirstFault
      walks = rule (has_stopped (walk_of machine l)) EndlessWalk 0

      behind : List FirstFault
      behind = rule (line_fits (parts_for (side_for t n l) l)) StageTotal 0 ∷ room_test (side_for t n l) l (length b.verdicts) ∷ []

      spared : All (Spares EndlessWalk) ahead
      spared = (table-spares t n (omega arith), (rule-spares UnequalLengths _ refl, (rule-spares LongLine _ refl, (rule-spares UnknownEdition _ refl, (rule-spares PointSize _ refl, (rule-spares Advances _ refl, (rule-spares UnknownGlyph _ refl, tt)))))))

      spared-behind : All (Spares EndlessWalk) behind
      spared-behind = (rule-spares StageTotal _ refl, (rule-spares ShortRoom _ refl, tt))

      free : Accepted t n → Walkable n l b → NoFault ahead
      free ok h = (
        ok,
        (
          rule-clear UnequalLengths 0 ((lengths-are l b).1 h.lengths),
          (
            rule-clear LongLine 0 (le-leb _ _ h.short),
            (
              rule-clear UnknownEdition 0 ((edition-is l.edition).1 h.edition),
              (
                rule-clear PointSize 0 ((sizes-are l.sizes).1 h.sizes),
                (rule-clear Advances 0 ((advances-are l).1 h.measured), (rule-clear UnknownGlyph 0 ((glyphs-are n l.glyphs).1 h.known), tt)),
              ),
            ),
          ),
        ),
      )

      refused : NoFault ahead × (walks ≡ Bad EndlessWalk 0) → Accepted t n × Walkable n l b × NeverEnds machine l
      refused ((ok, (p9, (p10, (p18, (p11, (p12, (p13, _))))))), q) =
          let known = (glyphs-are n l.glyphs).0 (rule-holds _ UnknownGlyph 0 p13) in (
            ok,
            record {
              lengths = (lengths-are l b).0 (rule-holds _ UnequalLengths 0 p9);
              short = leb-true _ _ (rule-holds _ LongLine 0 p10);
              edition = (edition-is l.edition).0 (rule-holds _ UnknownEdition 0 p18);
              sizes = (sizes-are l.sizes).0 (rule-holds _ PointSize 0 p11);
              measured = (advances-are l).0 (rule-holds _ Advances 0 p12);
              known = known;
            },
            never-of machine (side-machine ok) known (rule-bad _ EndlessWalk EndlessWalk 0 0 q).0,
          )

  -- ---- a line that is answered

  no-machine : EndsWith none l (classes_of (walk_of none l)) (entries_of (walk_of none l))
  unfolding walk_of
  no-machine = (refl, refl)

  ends_of : (m : Option Machine) → OkMaybe n m → KnownGlyphs n l.glyphs → has_stopped (walk_of m l) ≡ true → EndsWith m l (classes_of (walk_of m l)) (entries_of (walk_of m l))
  ends_of none ok known e = no-machine
  ends_of (some m) ok known e = walk_ends n m ok l known e

  accepted-is : table_fault t n ≡ Clear → Accepted t n
  unfolding Accepted
  accepted-is q = q

  -- THE WALK ENDS with the classes that are stored and the count that is answered
  pub ended : (z : ℤ) (k v : ℕ) → (justified t n l b).answer ≡ justifies z k v → EndsWith (side_for t n l).machine l (justified t n l b).lent.classes k
  ended z k v e =
      let a = answered t n l b z k v e in
      let c = cleared t n l b a.clear in
      subst (λ (cs : List ℕ). EndsWith (side_for t n l).machine l cs k) (sym a.classes)
      (subst (EndsWith (side_for t n l).machine l (classes_of (walk_of (side_for t n l).machine l))) (sym a.entries)
      (ends_of (side_for t n l).machine (side-machine (accepted-is c.accepted)) c.known c.stops))
