-- Runs of numbers: the turns of their reader's loop, and what the reader concludes.
use Prim.Native.Nat.{ℕ, suc, ◌+◌, ◌-◌, ◌*◌, ◌≤◌, ◌<◌, ◌^◌}
use mathlib.Core.Path.{◌≡◌, refl, sym, ap, ◌∙◌, subst}
use mathlib.Core.Logic.{ite}
use mathlib.Core.List.{List, [], ◌∷◌, ◌++◌}
use native.Mathlib.Omega.{arith}
use native.Mathlib.Decide.{ℕ_discrete}
use lib.ListN.{length, drop}
use Rattle.fields.specs.Field.{be16, u16_at, u32_at, Bytes}
use Rattle.fields.proofs.Laws.{u16_at-fits}
use Rattle.encoding.specs.Codes.{All, counted, Found, Absent, items_at}
use Rattle.encoding.specs.Runs.{Run, OkRuns}
use Rattle.encoding.specs.Distinct.{InOrder}
use Rattle.encoding.specs.Sections.{run_less_code}
use Rattle.encoding.proofs.RunsLaws.{ok-few}
use Rattle.encoding.proofs.SectionLaws.{WideRunLess, run-less-free, ok-wide}
use Rattle.encoding.proofs.PoolReadLaws.{values}
use Rattle.sheet_sections.specs.Section.{HasItems}
use Rattle.sheet_sections.specs.RunSection.{MayFollow}
use Rattle.sheet_sections.proofs.SectionLaws.{items-cut, field16, items-outside, items-good, items-bad}
use Rattle.sheet_sections.specs.Pool.{number_run_at, NumbersFrom, NumberRuns, used_after}

-- ---- one run

pub same_number : (s : List ℕ) (p first last x : ℕ) → first ≡ u16_at s p → last ≡ u16_at s (p + 2) → x ≡ u16_at s (p + 4)
    → ◌≡◌ {A = Run ℕ} (record { first = first; last = last; value = x + 1 }) (number_run_at s p)
same_number s p first last x e f g = λ i. record { first = e i; last = f i; value = g i + 1 }

pub used-fits : (v k : ℕ) → v ≤ 65536 → k ≤ 65537 → used_after v k ≤ 65537
used-fits v k hv hk = go (ℕ_discrete v k)
  where
    go : (d : Dec (v ≡ k)) → ite d (suc k) k ≤ 65537
    go (yes p) = omega arith
    go (no p) = hk

-- ---- a turn of the reader's loop

module _ (s : List ℕ) (n m from held used place place' left left' : ℕ) (r : Run ℕ) (er : r ≡ number_run_at s place) (ep : place' ≡ place + 6) (el : left ≡ suc left') where
  abbrev rest : List (Run ℕ)
  rest = items_at number_run_at 6 s place' left'

  items : items_at number_run_at 6 s place left ≡ r ∷ rest
  items = items-cut number_run_at 6 s place place' left left' ep el ∙ ap (λ (x : Run ℕ). x ∷ rest) (sym er)

  pub number-follows : NumbersFrom n m from held used (items_at number_run_at 6 s place left) → MayFollow n (used + 1) 0 from held r
  number-follows h =
      let g : NumbersFrom n m from held used (r ∷ rest) = subst (NumbersFrom n m from held used) items h in
      record { rises = g.0.0; whole = g.0.1; inside = g.0.2; small = omega (arith, g.1.0); other = g.0.3; maximal = g.0.4 }

  module _ (from' used' : ℕ) (ef : from' ≡ r.last + 1) (eu : used' ≡ used_after r.value used) where
    pub number-on : NumbersFrom n m from held used (items_at number_run_at 6 s place left) → NumbersFrom n m from' r.value used' rest
    number-on h =
        let g : NumbersFrom n m from held used (r ∷ rest) = subst (NumbersFrom n m from held used) items h in
        let l : suc r.last ≡ from' = omega arith in
        (subst (λ (x : ℕ). OkRuns 0 n x r.value rest) l g.0.5, subst (λ (x : ℕ). InOrder (suc m) x (values rest)) (sym eu) g.1.1)

    -- the run follows, whatever its number was tested against, and its number is used before or the next new one
    pub number-back : {limit : ℕ} → MayFollow n limit 0 from held r → r.value ≤ used
        → NumbersFrom n m from' r.value used' rest → NumbersFrom n m from held used (items_at number_run_at 6 s place left)
    number-back f k h =
        let l : from' ≡ suc r.last = omega arith in
        subst (NumbersFrom n m from held used) (sym items) (
          (f.rises, f.whole, f.inside, f.other, f.maximal, subst (λ (x : ℕ). OkRuns 0 n x r.value rest) l h.0),
          (k, subst (λ (x : ℕ). InOrder (suc m) x (values rest)) eu h.1),
        )

pub numbers-end : (s : List ℕ) (n m from held used place left : ℕ) → left ≡ 0 → from ≤ n → used ≡ suc m
    → NumbersFrom n m from held used (items_at number_run_at 6 s place left)
numbers-end s n m from held used place left e h i = subst (λ (j : ℕ). NumbersFrom n m from held used (items_at number_run_at 6 s place j)) (sym e) (h, i)

pub numbers-ended : (s : List ℕ) (n m from held used place left : ℕ) → left ≡ 0
    → NumbersFrom n m from held used (items_at number_run_at 6 s place left) → used ≡ suc m
numbers-ended s n m from held used place left e h = (subst (λ (j : ℕ). NumbersFrom n m from held used (items_at number_run_at 6 s place j)) e h).1

-- ---- a run in bytes

module _ (s : List ℕ) (bytes : Bytes s) where
  pub number-wide : (p : ℕ) → WideRunLess (number_run_at s p)
  number-wide p = (u16_at-fits s p bytes, u16_at-fits s (p + 2) bytes, (λ e. omega arith), omega (arith, u16_at-fits s (p + 4) bytes))

  pub number_at : (p : ℕ) → p + 6 ≤ length s → drop p s ≡ run_less_code (number_run_at s p) ++ drop (p + 6) s
  number_at p h =
      let e : u16_at s (p + 4) ≡ u16_at s (p + 4) + 1 - 1 = omega arith in
      field16 s bytes p (p + 2) refl (omega arith) ∙ ap (λ (l : List ℕ). be16 (u16_at s p) ++ l)
      (field16 s bytes (p + 2) (p + 4) (omega arith) (omega arith) ∙ ap (λ (l : List ℕ). be16 (u16_at s (p + 2)) ++ l)
      (field16 s bytes (p + 4) (p + 6) (omega arith) (omega arith) ∙ ap (λ (x : ℕ). be16 x ++ drop (p + 6) s) e))

-- ---- the section

module _ (n m : ℕ) (hn : n < 2 ^ 16) (hm : m < 2 ^ 16) where
  grows : (v k : ℕ) (d : Dec (v ≡ k)) → ite d (suc k) k ≤ suc m → k ≤ suc m
  grows v k (yes p) h = omega arith
  grows v k (no p) h = h

  ends : (rs : List (Run ℕ)) (k : ℕ) → InOrder (suc m) k (values rs) → k ≤ suc m
  ends [] k o = omega (arith, o)
  ends (r ∷ rs) k o = grows r.value k (ℕ_discrete r.value k) (ends rs (used_after r.value k) o.1)

  fits : (v k : ℕ) (d : Dec (v ≡ k)) → v ≤ k → ite d (suc k) k ≤ suc m → v ≤ 2 ^ 16
  fits v k (yes p) h q = omega arith
  fits v k (no p) h q = omega (arith, p)

  all_fit : (rs : List (Run ℕ)) (k : ℕ) → InOrder (suc m) k (values rs) → All (λ (r : Run ℕ). r.value ≤ 2 ^ 16) rs
  all_fit [] k o = tt
  all_fit (r ∷ rs) k o =
      (fits r.value k (ℕ_discrete r.value k) o.0 (ends rs (used_after r.value k) o.1), all_fit rs (used_after r.value k) o.1)

  few-numbers : (rs : List (Run ℕ)) → NumberRuns n m rs → (length rs < 2 ^ 32) × All WideRunLess rs
  few-numbers rs g = (
    omega (arith, ok-few ℕ_discrete 0 rs n 0 0 g.0),
    ok-wide 0 n (λ (x : ℕ). x ≤ 2 ^ 16) (omega arith) rs 0 0 g.0 (all_fit rs 1 g.1),
  )

  module _ (s : List ℕ) (bytes : Bytes s) (at : ℕ) where
    pub numbers-outside : (HasItems 6 s at → ⊥) → Absent (counted run_less_code) (NumberRuns n m) s at
    numbers-outside = items-outside run_less_code WideRunLess run-less-free number_run_at 6 (λ a. refl) s bytes (number-wide s bytes) (number_at s bytes) (NumberRuns n m) few-numbers at

    module _ (k : ℕ) (there : HasItems 6 s at × (k ≡ u32_at s at)) where
      pub numbers-good : NumberRuns n m (items_at number_run_at 6 s (at + 4) k) → Found (counted run_less_code) (NumberRuns n m) s at (at + 4 + 6 * k)
      numbers-good = items-good run_less_code WideRunLess run-less-free number_run_at 6 (λ a. refl) s bytes (number-wide s bytes) (number_at s bytes) (NumberRuns n m) few-numbers at k there

      pub numbers-bad : (NumberRuns n m (items_at number_run_at 6 s (at + 4) k) → ⊥) → Absent (counted run_less_code) (NumberRuns n m) s at
      numbers-bad = items-bad run_less_code WideRunLess run-less-free number_run_at 6 (λ a. refl) s bytes (number-wide s bytes) (number_at s bytes) (NumberRuns n m) few-numbers at k there
