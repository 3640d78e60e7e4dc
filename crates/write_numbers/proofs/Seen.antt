-- The numbers kept by place, among the items at the first k of `firsts`.
use Prim.Native.Nat.{ℕ, ◌+◌, ◌≤◌, ◌<◌, max}
use mathlib.Core.Path.{◌≡◌, sym, ap, ◌∙◌, subst}
use mathlib.Core.List.{List, [], ◌∷◌, ◌++◌, map, map-append}
use native.Mathlib.Decide.{ℕ_discrete, dec_lt}
use native.Mathlib.Omega.{arith}
use lib.ListN.{length, take, set}
use Rattle.encoding.proofs.DistinctLaws.{index-le}
use Rattle.lookup_targets.specs.declared.Kind.{Kind}
use Rattle.write_item.specs.Items.{Item, no_item, item_at, item-discrete}
use Rattle.write_numbers.specs.Numbered.{placed, item_number, Entered, KnownNumbers, Seen, KnownAs, Blank}
use Rattle.write_numbers.proofs.Laws.{known-old, known-new, seen-length}
use Rattle.write_numbers.proofs.NoneLaws.{number-none}

pub seen_none : (kind : Kind) (t firsts seen : List ℕ) → Blank seen → Seen kind t firsts seen 0
seen_none kind t firsts seen b = record { known = λ q u. absurd (u (b q)) }

module _ (kind : Kind) (t firsts : List ℕ) (k : ℕ) (hk : k ≤ length firsts) where
  all : length (no_item kind ∷ placed kind t (take k firsts)) ≡ k + 1
  all = seen-length (item_at kind t) (no_item kind) firsts k hk

  pub number-most : (place : ℕ) → item_number kind t (take k firsts) place ≤ k + 1
  number-most place = omega (arith, all, index-le (item-discrete kind) (item_at kind t place) (no_item kind ∷ placed kind t (take k firsts)))

  -- what a note tells
  pub number-noted : (seen : List ℕ) (place number : ℕ) → Seen kind t firsts seen k → KnownAs t seen place number
      → (number ≡ item_number kind t (take k firsts) place) × (number ≤ k)
  number-noted seen place number s m = go (ℕ_discrete number 0)
    where
      go : Dec (number ≡ 0) → (number ≡ item_number kind t (take k firsts) place) × (number ≤ k)
      go (yes e) = (e ∙ sym (number-none kind t (take k firsts) place (m.1 e)), omega arith)
      go (no e) =
          let w = s.known place (λ z. e (sym m.0 ∙ z)) in
          (sym m.0 ∙ sym w.0, omega (arith, w.1, m.0, all))

  -- an item that was not seen at its place joins the others, or is one of them
  pub seen_more : (firsts' others slots seen : List ℕ) (place n : ℕ) → Entered kind t firsts firsts' others slots k place n → Seen kind t firsts seen k
      → Seen kind t firsts' (set seen place n) (max k n)
  seen_more firsts' others slots seen place n e s = go (dec_lt k n)
    where
      S : List (Item kind)
      S = no_item kind ∷ placed kind t (take k firsts)

      go : Dec (k < n) → Seen kind t firsts' (set seen place n) (max k n)
      go (yes l) =
          let full : n ≡ length S = omega (arith, all, e.number, number-most place) in
          let m : k + 1 ≡ max k n = omega (arith, all, full) in
          let p : no_item kind ∷ placed kind t (take (k + 1) firsts') ≡ S ++ (item_at kind t place ∷ []) =
          ap (λ (l : List (Item kind)). no_item kind ∷ l) (ap (map (item_at kind t)) (e.new l).0 ∙ map-append (item_at kind t) (take k firsts) (place ∷ [])) in
          subst (Seen kind t firsts' (set seen place n)) m
          (record {
            known =
                subst (KnownNumbers (item-discrete kind) (item_at kind t) (set seen place n)) (sym p)
                (known-new (item-discrete kind) (item_at kind t) seen S place n e.number full s.known);
          })
      go (no l) =
          let h : n ≤ k = omega (arith, l) in
          let m : k ≡ max k n = omega arith in
          let p : no_item kind ∷ placed kind t (take k firsts') ≡ S = ap (λ (l : List ℕ). no_item kind ∷ placed kind t l) (e.old h).0 in
          subst (Seen kind t firsts' (set seen place n)) m
          (record {
            known =
                subst (KnownNumbers (item-discrete kind) (item_at kind t) (set seen place n)) (sym p)
                (known-old (item-discrete kind) (item_at kind t) seen S place n e.number (omega (arith, all)) s.known);
          })

  -- what is numbered already stays as it is
  pub seen-still : (seen : List ℕ) (n : ℕ) → n ≤ k → Seen kind t firsts seen k → Seen kind t firsts seen (max k n)
  seen-still seen n h s = let m : k ≡ max k n = omega arith in subst (Seen kind t firsts seen) m s
