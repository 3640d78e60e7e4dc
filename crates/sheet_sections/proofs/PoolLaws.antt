-- Distinct items, and then runs of their numbers: a `pool`, for any kind of item.
use Prim.Native.Nat.{ℕ, zero, suc, ◌+◌, ◌≤◌, ◌<◌, ◌^◌}
use Rattle.std.proofs.Common.{Option, Some, None}
use mathlib.Core.Path.{◌≡◌, ap, ◌∙◌, subst}
use mathlib.Core.Logic.{ite, if_neg}
use mathlib.Core.List.{List, [], ◌∷◌}
use native.Mathlib.Decide.{ℕ_discrete}
use native.Mathlib.Omega.{arith}
use lib.ListN.{length, get_or}
use Rattle.fields.specs.Field.{u32_at, Bytes}
use Rattle.encoding.specs.Codes.{All, counted, PrefixFree, Found, Absent}
use Rattle.encoding.specs.Runs.{Run}
use Rattle.encoding.specs.Distinct.{index, InOrder, Once}
use Rattle.encoding.specs.Sections.{run_less_code, pool}
use Rattle.encoding.proofs.ListLaws.{all_map, all-at}
use Rattle.encoding.proofs.CodeLaws.{counted-free}
use Rattle.encoding.proofs.DistinctLaws.{index-self}
use Rattle.encoding.proofs.RunsLaws.{ok-few}
use Rattle.encoding.proofs.ReadLaws.{first_absent, second-absent, both_found}
use Rattle.encoding.proofs.PoolReadLaws.{values, pool-found, pool-absent, OkList, OkTwoRuns}
use Rattle.sheet_sections.specs.Section.{Parses}
use Rattle.sheet_sections.proofs.SectionLaws.{count-known}
use Rattle.sheet_sections.specs.Pool.{Items, NumberRuns, used_after}

-- ---- no item is there twice, and none of them is none

pub all-places : {A : Type 0} (P : A → Type 0) (xs : List A) (z : A) → ((k : ℕ) → k < length xs → P (get_or xs k z)) → All P xs
all-places P [] z h = tt
all-places P (x ∷ xs) z h = (h 0 (omega arith), all-places P xs z (λ k l. h (suc k) (omega arith)))

module _ {A : Type 0} (eq : Discrete A) (none : A) (ds : List A) where
  pub once-others : Once eq (none ∷ ds) → All (λ (x : A). none ≡ x → ⊥) ds × Once eq ds
  once-others o = (
    all-places (λ (x : A). none ≡ x → ⊥) ds none (λ k h. (split (get_or ds k none) k (eq none (get_or ds k none)) (o (suc k) none (omega arith))).0),
    (λ k z h. (split (get_or ds k z) k (eq none (get_or ds k z)) (o (suc k) z (omega arith))).1),
  )
    where
      split : (x : A) (k : ℕ) (d : Dec (none ≡ x)) → ite d 0 (suc (index eq x ds)) ≡ suc k → (none ≡ x → ⊥) × (index eq x ds ≡ k)
      split x k (yes p) e = absurd (omega arith)
      split x k (no p) e = (p, omega arith)

  pub others-once : All (λ (x : A). none ≡ x → ⊥) ds → Once eq ds → Once eq (none ∷ ds)
  others-once a o zero z h = index-self eq none ds
  others-once a o (suc k) z h =
      if_neg (eq none (get_or ds k z)) (all-at (λ (x : A). none ≡ x → ⊥) ds z k a (omega arith)) _ _ ∙ ap suc (o k z (omega arith))

-- ---- all items are used, so that there are no more of them than runs

grown : (v k : ℕ) (d : Dec (v ≡ k)) (x y : ℕ) → x ≤ ite d (suc k) k + y → x ≤ k + suc y
grown v k (yes p) x y h = omega arith
grown v k (no p) x y h = omega arith

all-used : (m : ℕ) (rs : List (Run ℕ)) (k : ℕ) → InOrder (suc m) k (values rs) → suc m ≤ k + length rs
all-used m [] k o = omega (arith, o)
all-used m (r ∷ rs) k o = grown r.value k (ℕ_discrete r.value k) (suc m) (length rs) (all-used m rs (used_after r.value k) o.1)

-- ---- the two sections; ok says of an item what P says of one that is not none

module _ {A : Type 0} (eq : Discrete A) (code : A → List ℕ) (P : A → Type 0) (none : A) (pn : P none) (ok : A → Type 0)
    (ok→ : (x : A) → ok x → (none ≡ x → ⊥) × P x) (ok← : (x : A) → (none ≡ x → ⊥) → P x → ok x)
    (free : PrefixFree code ok) (n : ℕ) (hn : n < 2 ^ 16) where
  items-free : PrefixFree (counted code) (Items eq ok n)
  items-free a b s t ha hb e = counted-free code ok free a b s t (omega (arith, ha.0), ha.2) (omega (arith, hb.0), hb.2) e

  -- the two sections' values, said both ways
  to-two : (p : List A × List (Run ℕ)) → Items eq ok n p.0 × NumberRuns n (length p.0) p.1 → OkTwoRuns eq code P none pn n p
  to-two p h = (
    (
      others-once eq none p.0 (all_map ok (λ (x : A). none ≡ x → ⊥) (λ x o. (ok→ x o).0) p.0 h.0.2) h.0.1,
      all_map ok P (λ x o. (ok→ x o).1) p.0 h.0.2,
    ),
    h.1,
  )

  joined : (xs : List A) → All (λ (x : A). none ≡ x → ⊥) xs → All P xs → All ok xs
  joined [] g h = tt
  joined (x ∷ xs) g h = (ok← x g.0 h.0, joined xs g.1 h.1)

  from-two : (p : List A × List (Run ℕ)) → OkTwoRuns eq code P none pn n p → Items eq ok n p.0 × NumberRuns n (length p.0) p.1
  from-two p h =
      let a = once-others eq none p.0 h.0.0 in (
        (
          omega (arith, all-used (length p.0) p.1 1 h.1.1, ok-few ℕ_discrete 0 p.1 n 0 0 h.1.0),
          a.1,
          joined p.0 a.0 h.0.1,
        ),
        h.1,
      )

  module _ (s : List ℕ) (bytes : Bytes s) (at : ℕ) where
    pub no_items : Absent (counted code) (Items eq ok n) s at → Absent (pool eq code none) (OkList eq code P none pn n) s at
    no_items h =
        pool-absent eq code P none pn n s at
        (λ p rest o e. first_absent (counted code) (Items eq ok n) items-free (λ ds rs. counted run_less_code rs) (λ ds rs. NumberRuns n (length ds) rs) s at h p rest (from-two p o) e)

    module _ (q : ℕ) (f : Found (counted code) (Items eq ok n) s at q) where
      pub item_count : u32_at s at ≡ length f.0
      item_count = count-known s bytes code (Items eq ok n) at q f (omega (arith, f.1.0))

      pub few-items : u32_at s at ≤ n
      few-items = omega (arith, item_count, f.1.0)

      -- what reading the second section tells of both
      pub both-parse : (m : ℕ) → m ≡ u32_at s at → (r : Option ℕ) → Parses (counted run_less_code) (NumberRuns n m) s q r
          → Parses (pool eq code none) (OkList eq code P none pn n) s at r
      both-parse m em (Some t) h =
          let g = both_found (counted code) (Items eq ok n) items-free (λ ds rs. counted run_less_code rs) (λ ds rs. NumberRuns n (length ds) rs) s at q f t
          (subst (λ (k : ℕ). Found (counted run_less_code) (NumberRuns n k) s q t) (em ∙ item_count) h) in
          pool-found eq code P none pn n s at t (g.0, to-two g.0 g.1, g.2, g.3)
      both-parse m em None h =
          pool-absent eq code P none pn n s at
          (λ p rest o e. second-absent (counted code) (Items eq ok n) items-free (λ ds rs. counted run_less_code rs) (λ ds rs. NumberRuns n (length ds) rs) s at q f
          (subst (λ (k : ℕ). Absent (counted run_less_code) (NumberRuns n k) s q) (em ∙ item_count) h) p rest (from-two p o) e)
