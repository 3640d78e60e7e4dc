-- A section of runs: the turns of its reader's loop, and what the reader concludes.
use Prim.Native.Nat.{ℕ, suc, ◌+◌, ◌*◌, ◌≤◌, ◌<◌, ◌^◌}
use mathlib.Core.Path.{◌≡◌, refl, sym, ap, ◌∙◌, subst}
use mathlib.Core.List.{List, ◌∷◌, ◌++◌}
use native.Mathlib.Decide.{ℕ_discrete}
use native.Mathlib.Omega.{arith}
use lib.ListN.{length, drop}
use Rattle.fields.specs.Field.{be16, u16_at, u32_at, Bytes}
use Rattle.fields.proofs.Laws.{u16_at-fits}
use Rattle.encoding.specs.Codes.{All, counted, Found, Absent, items_at}
use Rattle.encoding.specs.Runs.{Run, runs, unrun}
use Rattle.encoding.specs.Sections.{run_code, run_section}
use Rattle.encoding.proofs.ListLaws.{all_map}
use Rattle.encoding.proofs.RunsLaws.{runs-ok, runs-unrun, unrun-length, all_runs, all-unrun, ok-few}
use Rattle.encoding.proofs.SectionLaws.{WideRun, run-free, ok-wide}
use Rattle.sheet_sections.specs.Section.{HasItems}
use Rattle.sheet_sections.specs.RunSection.{Below, run_at, MayFollow, GoodRuns}
use Rattle.sheet_sections.proofs.SectionLaws.{items-cut, field16, items-outside, items-good, items-bad}

-- ---- a turn of the reader's loop

pub same-run : (s : List ℕ) (p first last value : ℕ) → first ≡ u16_at s p → last ≡ u16_at s (p + 2) → value ≡ u16_at s (p + 4)
    → ◌≡◌ {A = Run ℕ} (record { first = first; last = last; value = value }) (run_at s p)
same-run s p first last value e f g = λ i. record { first = e i; last = f i; value = g i }

module _ (s : List ℕ) (n limit skip from held place place' left left' : ℕ) (r : Run ℕ) (e : r ≡ run_at s place) (ep : place' ≡ place + 6) (el : left ≡ suc left') where
  abbrev rest : List (Run ℕ)
  rest = items_at run_at 6 s place' left'

  items : items_at run_at 6 s place left ≡ r ∷ rest
  items = items-cut run_at 6 s place place' left left' ep el ∙ ap (λ (x : Run ℕ). x ∷ rest) (sym e)

  pub turn-follows : GoodRuns n limit skip from held (items_at run_at 6 s place left) → MayFollow n limit skip from held r
  turn-follows h =
      let g : GoodRuns n limit skip from held (r ∷ rest) = subst (GoodRuns n limit skip from held) items h in
      record { rises = g.0.0; whole = g.0.1; inside = g.0.2; small = g.1.0; other = g.0.3; maximal = g.0.4 }

  module _ (from' : ℕ) (e' : from' ≡ r.last + 1) where
    pub turn_on : GoodRuns n limit skip from held (items_at run_at 6 s place left) → GoodRuns n limit skip from' r.value rest
    turn_on h =
        let l : suc r.last ≡ from' = omega arith in
        let g : GoodRuns n limit skip from held (r ∷ rest) = subst (GoodRuns n limit skip from held) items h in
        subst (λ (m : ℕ). GoodRuns n limit skip m r.value rest) l (g.0.5, g.1.1)

    pub turn-back : MayFollow n limit skip from held r → GoodRuns n limit skip from' r.value rest → GoodRuns n limit skip from held (items_at run_at 6 s place left)
    turn-back f h =
        let l : from' ≡ suc r.last = omega arith in
        let g : GoodRuns n limit skip (suc r.last) r.value rest = subst (λ (m : ℕ). GoodRuns n limit skip m r.value rest) l h in
        subst (GoodRuns n limit skip from held) (sym items) ((f.rises, f.whole, f.inside, f.other, f.maximal, g.0), (f.small, g.1))

pub no-runs-left : (s : List ℕ) (n limit skip from held place left : ℕ) → left ≡ 0 → from ≤ n → GoodRuns n limit skip from held (items_at run_at 6 s place left)
no-runs-left s n limit skip from held place left e h = subst (λ (k : ℕ). GoodRuns n limit skip from held (items_at run_at 6 s place k)) (sym e) (h, tt)

-- ---- a run in bytes

module _ (s : List ℕ) (bytes : Bytes s) where
  pub run-wide : (p : ℕ) → WideRun (run_at s p)
  run-wide p = (u16_at-fits s p bytes, u16_at-fits s (p + 2) bytes, u16_at-fits s (p + 4) bytes)

  pub run-at : (p : ℕ) → p + 6 ≤ length s → drop p s ≡ run_code (run_at s p) ++ drop (p + 6) s
  run-at p h =
      field16 s bytes p (p + 2) refl (omega arith) ∙ ap (λ (l : List ℕ). be16 (u16_at s p) ++ l)
      (field16 s bytes (p + 2) (p + 4) (omega arith) (omega arith) ∙ ap (λ (l : List ℕ). be16 (u16_at s (p + 2)) ++ l)
      (field16 s bytes (p + 4) (p + 6) (omega arith) (omega arith)))

  -- ---- what the reader concludes

  module _ (n limit skip at : ℕ) (hn : n < 2 ^ 16) (hl : limit ≤ 2 ^ 16) (hs : skip < limit) where
    few-runs : (rs : List (Run ℕ)) → GoodRuns n limit skip 0 skip rs → (length rs < 2 ^ 32) × All WideRun rs
    few-runs rs g = (
      omega (arith, ok-few ℕ_discrete skip rs n 0 skip g.0),
      all_map _ WideRun (λ r h. (h.0, h.1, omega (arith, h.3))) rs (ok-wide skip n (λ (x : ℕ). x < limit) (omega arith) rs 0 skip g.0 g.1),
    )

    -- runs of valid values, and valid values of runs
    as_values : (q : ℕ) → Found (counted run_code) (GoodRuns n limit skip 0 skip) s at q → Found (run_section skip) (Below n limit) s at q
    as_values q f =
        let rs = f.0 in
        let xs = unrun skip 0 n rs in
        let e : runs ℕ_discrete skip 0 xs ≡ rs = runs-unrun ℕ_discrete skip rs n 0 skip f.1.0 in (
          xs,
          (unrun-length skip n 0 skip rs f.1.0 ∙ omega arith, all-unrun ℕ_discrete skip (λ (x : ℕ). x < limit) rs n 0 hs f.1.1),
          f.2,
          f.3 ∙ ap (λ (t : List (Run ℕ)). counted run_code t ++ drop q s) (sym e),
        )

    no-values : Absent (counted run_code) (GoodRuns n limit skip 0 skip) s at → Absent (run_section skip) (Below n limit) s at
    no-values h xs rest v e =
        h (runs ℕ_discrete skip 0 xs) rest
        (runs-ok ℕ_discrete skip xs n 0 (omega (arith, v.0)), all_runs ℕ_discrete skip (λ (x : ℕ). x < limit) xs 0 v.1) e

    pub runs-outside : (HasItems 6 s at → ⊥) → Absent (run_section skip) (Below n limit) s at
    runs-outside h = no-values (items-outside run_code WideRun run-free run_at 6 (λ a. refl) s bytes run-wide run-at (GoodRuns n limit skip 0 skip) few-runs at h)

    module _ (k : ℕ) (there : HasItems 6 s at × (k ≡ u32_at s at)) where
      pub runs-good : GoodRuns n limit skip 0 skip (items_at run_at 6 s (at + 4) k) → Found (run_section skip) (Below n limit) s at (at + 4 + 6 * k)
      runs-good g =
          as_values (at + 4 + 6 * k)
          (items-good run_code WideRun run-free run_at 6 (λ a. refl) s bytes run-wide run-at (GoodRuns n limit skip 0 skip) few-runs at k there g)

      pub runs-bad : (GoodRuns n limit skip 0 skip (items_at run_at 6 s (at + 4) k) → ⊥) → Absent (run_section skip) (Below n limit) s at
      runs-bad g = no-values (items-bad run_code WideRun run-free run_at 6 (λ a. refl) s bytes run-wide run-at (GoodRuns n limit skip 0 skip) few-runs at k there g)
