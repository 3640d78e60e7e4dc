-- Refusals 12 to 15 of a line, and its classes and movements where none of them bars it.
use Prim.Native.Nat.{ℕ, zero, suc, ◌≤◌}
use mathlib.Core.Path.{◌≡◌, refl, sym, ap, ap₂, ◌∙◌, subst}
use mathlib.Core.Bool.{Bool, true, false, cond, ◌&&◌}
use mathlib.Core.List.{List, map}
use native.Mathlib.Omega.{arith}
use lib.IntN.{ℤ, pos, nat_abs, ◌-ℤ◌}
use lib.Signed.{lt_z}
use mir.Syntax.{w32, w64}
use mir.Val.{SFits, to_z, of_z}
use mir.ValLaws.{to_z-of_z}
use Rattle.fields.specs.declared.Refusal.TheVariants.{Advances, UnknownGlyph, EndlessWalk, StageTotal}
use Rattle.fields.specs.declared.Fault.{Fault}
use Rattle.fields.specs.Faults.{Clear}
use Rattle.fields.specs.Faults.{FirstFault, earlier, rule}
use Rattle.fields.proofs.Laws.{then-go, then-stop, rule-clear}
use Rattle.units.specs.declared.Units.{Units}
use Rattle.meaning.specs.Meaning.{Side}
use Rattle.share.specs.Share.{total}
use Rattle.share.specs.Line.{Glyph, evens, odds, line_moves, line_fits, line_left, signed_of, sumℤ}
use Rattle.share.proofs.Halves.{total-halves}
use Rattle.share.proofs.Lines.{line-sum}
use Rattle.line_rule.specs.Line.{Line, goes_back, gap_of, shrinks, gap_size, walk_of, has_stopped, classes_of, entries_of, parts_for, before_of, after_of, remainder_of}
use Rattle.units.specs.Fixed.{in_units}
use Rattle.line_moves.specs.Parts.{SharedOut, SharedGap}
use Rattle.line_moves.proofs.Sharing.{left-small}
use Rattle.std.proofs.Common.{Option, Some, None, Result, Ok, Err}
use Rattle.line_call.specs.declared.Tally.{Tally}
use Rattle.line_input.specs.Input.{within, none_negative, good_advances, all_known}
use Rattle.line_input.specs.Steps.{gap_in}
use Rattle.line_call.specs.Steps.{work_fault, worked_by, MovesOf, WorkedOut}
use Rattle.line_input.proofs.Tests.{and_left, and_right}
use Rattle.line_input.proofs.Gaps.{within-most, apart}

-- ---- the gap that was found

pub record Gapped (l : Line) (g : ℤ) : Type 0 where
  pub good : good_advances l ≡ true
  pub gap : gap_of l ≡ g
  pub small : nat_abs g ≤ 1073741823

gap-small : (l : Line) → good_advances l ≡ true → gap_size l ≤ 1073741823
unfolding gap_of
gap-small l e =
    let s = within-most (sumℤ l.advances) (and_right (none_negative l.advances) (within (sumℤ l.advances)) (and_left (none_negative l.advances && within (sumℤ l.advances)) (within l.target) e)) in
    let t = within-most l.target (and_right (none_negative l.advances && within (sumℤ l.advances)) (within l.target) e) in
    subst (λ (z : ℤ). nat_abs z ≤ 1073741823) (sym (ap₂ (λ (x y : ℤ). x -ℤ y) t.1 s.1)) (apart t.0 s.0 t.2 s.2)

pub gapped : (m : Line) (u : Units) → gap_in m ≡ Some u → Gapped m u.0
unfolding gap_in
gapped m u e = go (good_advances m) refl e
  where
    go : (t : Bool) → good_advances m ≡ t → cond t (Some (in_units (gap_of m))) None ≡ Some u → Gapped m u.0
    go false q e = cc
    go true q e =
        let x : in_units (gap_of m) ≡ u = cc in
        let y : gap_of m ≡ u.0 = ap (λ (w : Units). w.0) x in
        record { good = q; gap = y; small = subst (λ (z : ℤ). nat_abs z ≤ 1073741823) y (gap-small m q) }

pub gap-none : (l : Line) → gap_in l ≡ None → good_advances l ≡ false
unfolding gap_in
gap-none l e = go (good_advances l) refl e
  where
    go : (t : Bool) → good_advances l ≡ t → cond t (Some (in_units (gap_of l))) None ≡ None → good_advances l ≡ false
    go false q e = q
    go true q e = cc

-- ---- what bars it

-- a fault bars a line, and nothing is said of the rooms
pub barred : {f : FirstFault} {v : ℕ} (s : Side) (l : Line) (x : Fault) {w : Result Tally Fault} {cs ms : List ℕ} → w ≡ Err x → f ≡ Err x
    → WorkedOut f v s l w cs ms
barred {f} {v} s l x {w} {cs} {ms} b e =
    record {
      says = b ∙ ap (λ (g : FirstFault). worked_by g v s l) (sym e);
      classes = λ c. cc;
      moves = λ c. cc;
    }

module _ (s : Side) (n : ℕ) (l : Line) where
  abbrev Out : Result Tally Fault → List ℕ → List ℕ → Type 0
  Out = WorkedOut (work_fault s n l) 0 s l

  pub bad-advances : {w : Result Tally Fault} {cs ms : List ℕ} → w ≡ Err (record { refusal = Advances; at = 0 }) → good_advances l ≡ false → Out w cs ms
  unfolding work_fault earlier rule
  bad-advances b a = barred s l (record { refusal = Advances; at = 0 }) b (rw a)

  module _ (a : good_advances l ≡ true) where
    pub bad-glyph : {w : Result Tally Fault} {cs ms : List ℕ} (x : Fault) → rule (all_known n l.glyphs) UnknownGlyph 0 ≡ Err x → w ≡ Err x → Out w cs ms
    unfolding work_fault
    bad-glyph x k b = barred s l x b (then-go _ (rule-clear Advances 0 a) ∙ then-stop _ k ∙ k)

    module _ (k : all_known n l.glyphs ≡ true) where
      pub bad-walk : {o : Result Tally Fault} {cs ms : List ℕ} → o ≡ Err (record { refusal = EndlessWalk; at = 0 }) → has_stopped (walk_of s.machine l) ≡ false → Out o cs ms
      unfolding work_fault earlier rule
      bad-walk b w = barred s l (record { refusal = EndlessWalk; at = 0 }) b (rw (a, k, w))

      module _ (w : has_stopped (walk_of s.machine l) ≡ true) where
        bad-total : {o : Result Tally Fault} {cs ms : List ℕ} → o ≡ Err (record { refusal = StageTotal; at = 0 }) → line_fits (parts_for s l) ≡ false → Out o cs ms
        unfolding work_fault earlier rule
        bad-total b f = barred s l (record { refusal = StageTotal; at = 0 }) b (rw (a, k, w, f))

        clear : line_fits (parts_for s l) ≡ true → work_fault s n l ≡ Clear
        unfolding work_fault earlier rule
        clear f = rw (a, k, w, f)

-- ---- a gap that was shared

record Done (b back : Bool) (g : ℕ) (ps : List Glyph) (z : ℤ) (ms : List ℕ) : Type 0 where
  fits : line_fits ps ≡ true
  left : z ≡ signed_of b (line_left back ps g)
  moves : ms ≡ line_moves back ps g

module _ {b back : Bool} {g : ℕ} {ps : List Glyph} {ms ms' : List ℕ} {sh : Option Units} (w : SharedOut b back g ps ms sh ms') where
  shared-done : (u : Units) → sh ≡ Some u → Done b back g ps u.0 ms'
  shared-done u e = go (line_fits ps) refl (sym e ∙ w.answer) w.moves
    where
      go : (t : Bool) → line_fits ps ≡ t → Some u ≡ cond t (Some (in_units (signed_of b (line_left back ps g)))) None → ms' ≡ cond t (line_moves back ps g) ms
          → Done b back g ps u.0 ms'
      go true q x y =
          let z : u ≡ in_units (signed_of b (line_left back ps g)) = cc in
          record { fits = q; left = ap (λ (w : Units). w.0) z; moves = y }
      go false q x y = cc

  shared-over : sh ≡ None → line_fits ps ≡ false
  shared-over e = go (line_fits ps) refl (sym e ∙ w.answer)
    where
      go : (t : Bool) → line_fits ps ≡ t → None ≡ cond t (Some (in_units (signed_of b (line_left back ps g)))) None → line_fits ps ≡ false
      go true q x = cc
      go false q x = q

-- all movements together are no more than the gap
moves-small : (back : Bool) (ps : List Glyph) (gap : ℕ) → total (line_moves back ps gap) ≤ gap
moves-small back ps gap = omega (arith, total-halves (line_moves back ps gap), line-sum back ps gap)

signed-small : (b : Bool) (x : ℕ) → x ≤ 1073741823 → SFits w32 (signed_of b x)
signed-small false x h = record { sfits = omega arith }
signed-small true zero h = record { sfits = omega arith }
signed-small true (suc x) h = record { sfits = omega arith }

module _ (s : Side) (n : ℕ) (l : Line) {g : ℤ} (d : Gapped l g) (k : all_known n l.glyphs ≡ true) (w : has_stopped (walk_of s.machine l) ≡ true)
    {held : List ℕ} (eh : held ≡ classes_of (walk_of s.machine l)) {ms ms' : List ℕ} {sh : Option Units}
    (o : SharedGap g s l held ms sh ms') where
  -- the gap and the classes are the line's
  out : SharedOut (shrinks l) (goes_back l.edition) (gap_size l) (parts_for s l) ms sh ms'
  out =
      subst (λ (cs : List ℕ). SharedGap (gap_of l) s l cs ms sh ms') eh
      (subst (λ (z : ℤ). SharedGap z s l held ms sh ms') (sym d.gap) o)

  pub work-over : {v : Result Tally Fault} {cs xs : List ℕ} → v ≡ Err (record { refusal = StageTotal; at = 0 }) → sh ≡ None → WorkedOut (work_fault s n l) 0 s l v cs xs
  work-over {v} {cs} {xs} b e = bad-total s n l d.good k w b (shared-over out e)

  module _ (u : Units) (e : sh ≡ Some u) where
    -- no more is left than the gap, so that 32 bits hold it
    left-fits : SFits w32 u.0
    left-fits =
        let r = shared-done out u e in
        let h : gap_size l ≤ 1073741823 = gap-small l d.good in
        subst (SFits w32) (sym r.left) (signed-small (shrinks l) (line_left (goes_back l.edition) (parts_for s l) (gap_size l)) (omega (arith, h, left-small (goes_back l.edition) (parts_for s l) (gap_size l))))

    held-wide : to_z w64 (of_z w64 u.0) ≡ u.0
    held-wide = to_z-of_z w64 u.0 (record { sfits = omega (arith, left-fits.sfits) })

    pub narrow-fits : SFits w32 (to_z w64 (of_z w64 u.0))
    narrow-fits = subst (SFits w32) (sym held-wide) left-fits

    pub narrowed : to_z w32 (of_z w32 (to_z w64 (of_z w64 u.0))) ≡ u.0
    narrowed = ap (λ (z : ℤ). to_z w32 (of_z w32 z)) held-wide ∙ to_z-of_z w32 u.0 left-fits

    moves-are : MovesOf s l ms'
    unfolding before_of after_of
    moves-are =
        let r = shared-done out u e in
        record {
          before = ap (λ (xs : List ℕ). map (signed_of (shrinks l)) (evens xs)) r.moves;
          after = ap (λ (xs : List ℕ). map (signed_of (shrinks l)) (odds xs)) r.moves;
          low = omega (arith, ap total r.moves, moves-small (goes_back l.edition) (parts_for s l) (gap_size l), gap-small l d.good);
        }

    pub work-done : {c : Bool} {v : ℤ} {m : ℕ} → c ≡ lt_z g (pos 0) → v ≡ u.0 → m ≡ entries_of (walk_of s.machine l)
        → WorkedOut (work_fault s n l) 0 s l (Ok (record { shrink = c; remainder = v; entries = m; verdicts = 0 })) held ms'
    unfolding remainder_of
    work-done {c} {v} {m} ec ev em =
        let r = shared-done out u e in
        let clean : work_fault s n l ≡ Clear = clear s n l d.good k w r.fits in
        record {
          says = (λ i. Ok (record { shrink = (ec ∙ ap (λ (z : ℤ). lt_z z (pos 0)) (sym d.gap)) i; remainder = (ev ∙ r.left) i; entries = em i; verdicts = 0 })) ∙ ap (λ (f : FirstFault). worked_by f 0 s l) (sym clean);
          classes = λ q. eh;
          moves = λ q. moves-are;
        }
