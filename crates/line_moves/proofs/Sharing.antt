-- From parts that stand in two lists to a gap that is shared.
use Prim.Native.Nat.{ℕ, ◌*◌, ◌≤◌, ◌<◌}
use mathlib.Core.Path.{◌≡◌, sym, ap, ◌∙◌, subst}
use mathlib.Core.Bool.{Bool, true, false, cond}
use mathlib.Core.List.{List}
use native.Mathlib.Omega.{arith}
use lib.IntN.{ℤ, pos, nat_abs}
use lib.Signed.{lt_z, mag}
use mir.Syntax.{w32, w64}
use mir.Val.{to_z, of_z}
use Rattle.std.proofs.lemmas.Int.{ints, to_z-of_z}
use lib.ListN.{length}
use Rattle.fields.specs.Field.{Bytes}
use Rattle.types.specs.declared.Direction.{Direction}
use Rattle.meaning.specs.Meaning.{Side}
use Rattle.meaning.specs.Ask.{side_of}
use Rattle.table.specs.Means.{meaning_of}
use Rattle.line_rule.specs.Line.{Line, goes_back, parts_of}
use Rattle.share.specs.Share.{stages}
use Rattle.share.specs.declared.Totals.{Totals}
use Rattle.share.specs.Line.{Glyph, Narrow, line_moves, line_left, line_fits, signed_of}
use Rattle.share.specs.Sides.{Sides, totals_fit, moves_in, left_in, fits_in}
use Rattle.share.proofs.Sums.{totals-fit}
use Rattle.share.proofs.Lines.{line-sum}
use Rattle.line_moves.proofs.Parts.{record-limits, parts-narrow}
use Rattle.std.proofs.Common.{Option, Some, None}
use Rattle.units.specs.declared.Units.{Units}
use Rattle.line_moves.specs.Parts.{Laid, LaidOut, SharedOut, SharedGap, Sharable}
use Rattle.units.specs.Fixed.{in_units}

module _ {ps : List Glyph} {sides fs : List ℕ} (w : Laid ps sides fs) where
  -- the rule on the two lists
  pub laid-moves : (back : Bool) (gap : ℕ) → moves_in back sides fs gap ≡ line_moves back ps gap
  unfolding line_moves
  laid-moves back gap = rw (w.stages, w.extras, w.factors)

  pub laid-left : (back : Bool) (gap : ℕ) → left_in back sides fs gap ≡ line_left back ps gap
  unfolding line_left
  laid-left back gap = rw (w.stages, w.extras, w.factors)

-- refusal 15's test, on the totals that were found
module _ {ps : List Glyph} {ts : Totals} {sides fs : List ℕ} (w : LaidOut ps ts sides fs) {r : Bool} (e : r ≡ totals_fit ts stages) where
  pub test-sides : fits_in sides fs ≡ r
  test-sides = sym (e ∙ totals-fit ts sides fs w.totals)

  pub test-line : line_fits ps ≡ r
  unfolding line_fits
  test-line = rw (sym w.laid.stages, sym w.laid.factors) test-sides

-- the two lists may be shared over
pub line-sides : (shrink : Bool) (d : Direction) {t : List ℕ} {n : ℕ} {zs gs cs sides fs : List ℕ} → Bytes t → Sharable t n zs gs cs
    → Laid (parts_of (side_of d (meaning_of t n)) shrink zs gs cs) sides fs → length sides ≡ 2 * length gs → length fs ≡ 2 * length gs → Sides sides fs
line-sides shrink d {t} {n} {zs} {gs} {cs} bytes w l e f =
    record {
      equal = f ∙ sym e;
      few = omega (arith, w.short);
      narrow = subst Narrow (sym l.factors) (parts-narrow (side_of d (meaning_of t n)) shrink (record-limits t n d bytes w.accepted) zs w.small gs cs);
    }

-- no more is left than the gap
pub left-small : (back : Bool) (ps : List Glyph) (gap : ℕ) → line_left back ps gap ≤ gap
left-small back ps gap = omega (arith, line-sum back ps gap)

module _ (shrink back : Bool) (gap : ℕ) (ps : List Glyph) (ms : List ℕ) where
  pub shared-left : {z : ℤ} {ms' : List ℕ} → line_fits ps ≡ true → z ≡ signed_of shrink (line_left back ps gap) → ms' ≡ line_moves back ps gap
      → SharedOut shrink back gap ps ms (Some (in_units z)) ms'
  shared-left {z} {ms'} fits e m =
      record {
        answer =
            ap (λ (x : ℤ). Some (in_units x)) e
            ∙ ap (λ (t : Bool). cond t (Some (in_units (signed_of shrink (line_left back ps gap)))) None) (sym fits);
        moves = m ∙ ap (λ (t : Bool). cond t (line_moves back ps gap) ms) (sym fits);
      }

  pub shared-over : line_fits ps ≡ false → SharedOut shrink back gap ps ms None ms
  shared-over e =
      record {
        answer = ap (λ (t : Bool). cond t (Some (in_units (signed_of shrink (line_left back ps gap)))) None) (sym e);
        moves = ap (λ (t : Bool). cond t (line_moves back ps gap) ms) (sym e);
      }

-- ---- the gap's sign

-- by the gap's sign, the edition and the gap's size, as the code found them
pub by_sign : (gap : ℤ) (s : Side) (l : Line) (classes : List ℕ) {b back : Bool} {n : ℕ} {ms ms' : List ℕ} {sh : Option Units} → b ≡ lt_z gap (pos 0) → back ≡ goes_back l.edition → n ≡ nat_abs gap
    → SharedOut b back n (parts_of s b l.sizes l.glyphs classes) ms sh ms' → SharedGap gap s l classes ms sh ms'
by_sign gap s l classes {b} {back} {n} {ms} {ms'} {sh} eb ek en w =
    subst (λ (x : Bool). SharedOut x (goes_back l.edition) (nat_abs gap) (parts_of s x l.sizes l.glyphs classes) ms sh ms') eb
    (subst (λ (k : Bool). SharedOut b k (nat_abs gap) (parts_of s b l.sizes l.glyphs classes) ms sh ms') ek
    (subst (λ (x : ℕ). SharedOut b back x (parts_of s b l.sizes l.glyphs classes) ms sh ms') en w))

-- a remainder of 32 bits, as 64 bits hold it
pub widened_read : {y : ℤ} (z : ℤ) → mag z < 2147483648 → y ≡ to_z w32 (of_z w32 z) → to_z w64 (of_z w64 y) ≡ z
widened_read z h e = grind (arith, ints, to_z-of_z)

-- the size of a gap as it is read
pub size-read : {n : ℕ} (z : ℤ) → nat_abs z ≤ 1073741823 → n ≡ nat_abs (to_z w64 (of_z w64 z)) → n ≡ nat_abs z
size-read z h e = grind (arith, ints, to_z-of_z)
