-- Laws of the notes, for the proofs of the functions and for callers.
use Prim.Native.Nat.{ℕ, zero, suc, ◌+◌, ◌-◌, ◌*◌, ◌/◌, ◌%◌, ◌≤◌, ◌<◌}
use mathlib.Core.Path.{◌≡◌, refl, sym, ap, ◌∙◌}
use mathlib.Core.List.{List, [], ◌∷◌}
use mathlib.Core.Logic.{◌⊎◌, inl, inr, ⊎_elim}
use native.Mathlib.Decide.{ℕ_discrete}
use native.Mathlib.Omega.{arith}
use lib.ListN.{get_or, set, replicate}
use lib.Seq.{get_or-set_other}
use Rattle.fields.specs.Faults.{FirstFault}
use Rattle.fields.specs.Faults.{Clear}
use Rattle.fields.proofs.Laws.{then-first, then-second, then-go}
use Rattle.fields.specs.Field.{u32_at}
use Rattle.fields.specs.Walk.{walk, each}
use Rattle.fields.proofs.Walk.{walk-goes, walk_none}
use Rattle.actions.specs.Faults.{action_fault, actions_fault}
use Rattle.actions.specs.Notes.{Passed, Passing}

-- what stands at a position after a store there: past the end nothing is stored
pub set_here : (l : List ℕ) (i a : ℕ) → (get_or (set l i a) i 0 ≡ a) ⊎ (get_or (set l i a) i 0 ≡ get_or l i 0)
set_here [] i a = inr refl
set_here (x ∷ xs) zero a = inl refl
set_here (x ∷ xs) (suc i) a = set_here xs i a

-- nothing is noted at first
pub no_note : (n i : ℕ) → get_or (replicate {A = ℕ} n 0) i 0 ≡ 0
no_note zero i = refl
no_note (suc n) zero = refl
no_note (suc n) (suc i) = no_note n i

-- of clear things that follow each other, fewer are clear too
pub each_fewer : (one : ℕ → FirstFault) (to : ℕ → ℕ) (m n at : ℕ) → m ≤ n → each one to n at ≡ Clear → each one to m at ≡ Clear
unfolding walk
each_fewer one to zero n at h e = refl
each_fewer one to (suc m) zero at h e = absurd (omega arith)
each_fewer one to (suc m) (suc n) at h e = then-go _ (then-first _ _ e) ∙ each_fewer one to m n (to at) (omega arith) (then-second _ _ e)

-- where nothing is noted nothing is known
pub blank-passed : (t : List ℕ) (glyphs : ℕ) (notes : List ℕ) → ((i : ℕ) → get_or notes i 0 ≡ 0) → Passed t glyphs notes
blank-passed t glyphs notes none = record { clear = λ i. walk_none _ _ _ _ _ _ (omega (arith, none i)) }

module _ {t : List ℕ} {glyphs : ℕ} where
  -- nothing is judged
  pub none-passing : {notes : List ℕ} → Passed t glyphs notes → Passing t glyphs notes notes
  none-passing p = record { passed = p; kept = λ i. omega arith; rest = λ i. refl }

  -- one judging after the other
  pub both-passing : {before between after : List ℕ} → Passing t glyphs before between → Passing t glyphs between after → Passing t glyphs before after
  both-passing p q = record { passed = q.passed; kept = λ i. omega (arith, p.kept i, q.kept i); rest = λ i. q.rest i ∙ p.rest i }

  -- actions that have no fault may be noted
  pub more-passing : {notes : List ℕ} (at byte : ℕ) → Passed t glyphs notes → actions_fault t glyphs (byte / 4) at ≡ Clear → get_or notes at 0 / 4 ≤ byte / 4
      → byte % 4 ≡ get_or notes at 0 % 4 → Passing t glyphs notes (set notes at byte)
  more-passing {notes} at byte p clear h e =
      record { passed = record { clear = λ i. passed i (ℕ_discrete i at) }; kept = λ i. kept i (ℕ_discrete i at); rest = λ i. rest i (ℕ_discrete i at) }
    where
      passed_here : actions_fault t glyphs (get_or (set notes at byte) at 0 / 4) at ≡ Clear
      passed_here =
          ⊎_elim
          (λ s. ap (λ (m : ℕ). actions_fault t glyphs (m / 4) at) s ∙ clear)
          (λ s. ap (λ (m : ℕ). actions_fault t glyphs (m / 4) at) s ∙ p.clear at)
          (set_here notes at byte)

      passed : (i : ℕ) → Dec (i ≡ at) → actions_fault t glyphs (get_or (set notes at byte) i 0 / 4) i ≡ Clear
      passed i (yes q) = rw q passed_here
      passed i (no n) = ap (λ (m : ℕ). actions_fault t glyphs (m / 4) i) (get_or-set_other notes at i byte 0 n) ∙ p.clear i

      kept_here : get_or notes at 0 / 4 ≤ get_or (set notes at byte) at 0 / 4
      kept_here = ⊎_elim (λ s. omega (arith, s, h)) (λ s. omega (arith, s)) (set_here notes at byte)

      kept : (i : ℕ) → Dec (i ≡ at) → get_or notes i 0 / 4 ≤ get_or (set notes at byte) i 0 / 4
      kept i (yes q) = rw q kept_here
      kept i (no n) = omega (arith, get_or-set_other notes at i byte 0 n)

      rest-here : get_or (set notes at byte) at 0 % 4 ≡ get_or notes at 0 % 4
      rest-here = ⊎_elim (λ s. omega arith) (λ s. omega arith) (set_here notes at byte)

      rest : (i : ℕ) → Dec (i ≡ at) → get_or (set notes at byte) i 0 % 4 ≡ get_or notes i 0 % 4
      rest i (yes q) = rw q rest-here
      rest i (no n) = omega (arith, get_or-set_other notes at i byte 0 n)

module _ (t : List ℕ) (glyphs : ℕ) where
  -- the first of some actions without fault, and those after it: the next one stands at `p`
  pub first-clear : (left at : ℕ) → 0 < left → actions_fault t glyphs left at ≡ Clear → action_fault t glyphs at ≡ Clear
  unfolding walk
  first-clear zero at h e = absurd (omega arith)
  first-clear (suc left) at h e = then-first _ _ e

  pub rest-clear : (n i at p : ℕ) → i < n → actions_fault t glyphs (n - i) at ≡ Clear → p ≡ at + u32_at t (at + 4) → actions_fault t glyphs (n - (i + 1)) p ≡ Clear
  rest-clear n i at p h e q =
      sym (walk-goes _ _ _ n i at 0 p 0 tt h (first-clear (n - i) at (omega arith) e) q refl) ∙ e

  -- what a note tells, by how many it says are known, of the actions from there on and of the first
  pub known-all : {notes : List ℕ} (at known : ℕ) → Passed t glyphs notes → known ≡ get_or notes at 0 / 4 → actions_fault t glyphs known at ≡ Clear
  known-all {notes} at known p e = rw e (p.clear at)

  pub known-clear : {notes : List ℕ} (at known : ℕ) → Passed t glyphs notes → known ≡ get_or notes at 0 / 4 → 0 < known → action_fault t glyphs at ≡ Clear
  known-clear {notes} at known p e h = first-clear known at h (known-all at known p e)

  -- a list of as many actions as have no fault, or fewer
  pub fewer-clear : (count passed at : ℕ) → count ≤ passed → actions_fault t glyphs passed at ≡ Clear → actions_fault t glyphs count at ≡ Clear
  fewer-clear count passed at h e = each_fewer (action_fault t glyphs) (λ q. q + u32_at t (q + 4)) count passed at h e

  -- an action that has no fault, and is not noted, may be noted
  pub one-passing : {notes : List ℕ} (at byte : ℕ) → Passed t glyphs notes → action_fault t glyphs at ≡ Clear → get_or notes at 0 < 4 → byte ≡ get_or notes at 0 + 4
      → Passing t glyphs notes (set notes at byte)
  unfolding walk
  one-passing {notes} at byte p clear new e =
      let one : byte / 4 ≡ 1 = omega arith in
      more-passing at byte p (ap (λ (k : ℕ). actions_fault t glyphs k at) one ∙ then-go _ clear) (omega arith) (omega arith)

  -- and `known` of actions without fault, where that is more than is noted
  pub ahead-passing : {notes : List ℕ} (at byte note known left : ℕ) → Passed t glyphs notes → actions_fault t glyphs left at ≡ Clear → note ≡ get_or notes at 0
      → note / 4 < known → known ≤ left → byte ≡ 4 * known + note % 4 → Passing t glyphs notes (set notes at byte)
  ahead-passing {notes} at byte note known left p clear e more h b =
      let four : byte / 4 ≤ left = omega arith in
      more-passing at byte p (each_fewer (action_fault t glyphs) (λ q. q + u32_at t (q + 4)) (byte / 4) left at four clear) (omega arith) (omega arith)

  -- some actions from `first` on were passed, and the next one stands at `at`
  pub none_yet : (first k : ℕ) → actions_fault t glyphs (0 + k) first ≡ actions_fault t glyphs k first
  none_yet first k = let e : 0 + k ≡ k = omega arith in ap (λ (n : ℕ). actions_fault t glyphs n first) e

  module _ (first passed at : ℕ) (before : (k : ℕ) → actions_fault t glyphs (passed + k) first ≡ actions_fault t glyphs k at) where
    pub passed-all : actions_fault t glyphs passed first ≡ Clear
    passed-all = let e : passed ≡ passed + 0 = omega arith in ap (λ (n : ℕ). actions_fault t glyphs n first) e ∙ before 0 ∙ walk_none _ _ _ _ _ _ (omega arith)

    pub passed-next : (p : ℕ) → action_fault t glyphs at ≡ Clear → p ≡ at + u32_at t (at + 4)
        → (k : ℕ) → actions_fault t glyphs (passed + 1 + k) first ≡ actions_fault t glyphs k p
    unfolding walk
    passed-next p e q k =
        let count : passed + 1 + k ≡ passed + suc k = omega arith in
        ap (λ (n : ℕ). actions_fault t glyphs n first) count ∙ before (suc k) ∙ then-go _ e ∙ ap (λ (x : ℕ). actions_fault t glyphs k x) (sym q)
