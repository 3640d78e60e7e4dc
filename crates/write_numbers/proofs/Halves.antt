-- The search by halves for the items that come before x, of those listed in `others`.
use Prim.Native.Nat.{ℕ, ◌+◌, ◌≤◌, ◌<◌}
use mathlib.Core.Path.{◌≡◌, subst}
use mathlib.Core.List.{List}
use native.Mathlib.Decide.{ℕ_discrete, dec_lt}
use native.Mathlib.Omega.{arith}
use lib.ListN.{get_or}
use Rattle.lookup_targets.specs.declared.Kind.{Kind}
use Rattle.write_item.specs.Items.{Item, Earlier}
use Rattle.write_item.proofs.Earlier.{earlier-trans}
use Rattle.write_numbers.specs.Numbered.{other_of, SortedOthers}

-- where the search stands: the first `low` come before x, and none from `high` on
pub record Halves (kind : Kind) (t firsts others : List ℕ) (x : Item kind) (low high : ℕ) : Type 0 where
  pub least : low ≤ high
  pub most : high ≤ get_or others 0 0
  pub before : (s : ℕ) → s < low → Earlier kind (other_of kind t firsts others s) x
  pub after : (s : ℕ) → high ≤ s → s < get_or others 0 0 → Earlier kind (other_of kind t firsts others s) x → ⊥

module _ (kind : Kind) (t firsts others : List ℕ) (x : Item kind) where
  abbrev other : ℕ → Item kind
  other = other_of kind t firsts others

  module _ (k low high middle : ℕ) (lm : low ≤ middle) (mh : middle < high) (sorted : SortedOthers kind t firsts others k) (h : Halves kind t firsts others x low high) where
    pub halves-lower : (Earlier kind (other middle) x → ⊥) → Halves kind t firsts others x low middle
    halves-lower e =
        record { least = lm; most = omega (arith, h.most); before = h.before; after = λ s l b f. go s b f (ℕ_discrete s middle) l }
      where
        go : (s : ℕ) → s < get_or others 0 0 → Earlier kind (other s) x → Dec (s ≡ middle) → middle ≤ s → ⊥
        go s b f (yes q) l = e (subst (λ (i : ℕ). Earlier kind (other i) x) q f)
        go s b f (no q) l = e (earlier-trans kind (other middle) (other s) x (sorted.rising middle s (omega (arith, q)) b) f)

    pub halves-upper : Earlier kind (other middle) x → Halves kind t firsts others x (middle + 1) high
    halves-upper e = record { least = omega arith; most = h.most; before = λ s l. go s l (dec_lt s middle); after = h.after }
      where
        go : (s : ℕ) → s < middle + 1 → Dec (s < middle) → Earlier kind (other s) x
        go s l (yes b) = earlier-trans kind (other s) (other middle) x (sorted.rising s middle b (omega (arith, h.most))) e
        go s l (no b) = let q : middle ≡ s = omega (arith, b) in subst (λ (i : ℕ). Earlier kind (other i) x) q e
