-- A cluster in bytes: the turns of its reader's loop, and what the reader concludes.
use Prim.Native.Nat.{ℕ, suc, ◌+◌, ◌*◌, ◌≤◌, ◌<◌, ◌^◌}
use mathlib.Core.Path.{◌≡◌, refl, sym, ap, ◌∙◌, subst}
use mathlib.Core.List.{List, ◌∷◌, ◌++◌}
use native.Mathlib.Omega.{arith}
use lib.ListN.{length, drop}
use Rattle.fields.specs.Field.{be16, be32, u16_at, u32_at, Bytes}
use Rattle.fields.proofs.Laws.{u16_at-fits, u32_at-fits}
use Rattle.encoding.specs.Codes.{All, Found, Absent, items_at}
use Rattle.encoding.proofs.ReadLaws.{items-length, refuse-count}
use Rattle.types.specs.declared.Pair.{Pair}
use Rattle.meaning.specs.Limits.{Rising}
use Rattle.meaning.specs.Sheet.{pair_code}
use Rattle.meaning.specs.Wide.{WidePair}
use Rattle.meaning.proofs.SheetLaws.{pair-free, few-pairs}
use Rattle.sheet_sections.specs.Section.{HasItems}
use Rattle.sheet_sections.proofs.SectionLaws.{items-cut, field16, field32, items-outside, items-good, items-bad}
use Rattle.sheet_cluster.specs.Clusters.{pair_at, GoodPair, GoodPairs, cluster_code, SomeCluster}

-- ---- a turn of the reader's loop

module _ (s : List ℕ) (least place place' left left' : ℕ) (ep : place' ≡ place + 24) (el : left ≡ suc left') where
  cut : items_at pair_at 24 s place left ≡ pair_at s place ∷ items_at pair_at 24 s place' left'
  cut = items-cut pair_at 24 s place place' left left' ep el

  opened : GoodPairs least (items_at pair_at 24 s place left) → GoodPairs least (pair_at s place ∷ items_at pair_at 24 s place' left')
  opened h = subst (GoodPairs least) cut h

  pub pair-good : GoodPairs least (items_at pair_at 24 s place left) → GoodPair least (pair_at s place)
  pair-good h = ((opened h).1.0, (opened h).0.0)

  module _ (least' : ℕ) (e : least' ≡ u32_at s place + 1) where
    pub pairs-on : GoodPairs least (items_at pair_at 24 s place left) → GoodPairs least' (items_at pair_at 24 s place' left')
    pairs-on h =
        let f : suc (u32_at s place) ≡ least' = omega arith in
        ((opened h).0.1, subst (λ (n : ℕ). Rising n (items_at pair_at 24 s place' left')) f (opened h).1.1)

    pub pairs-back : GoodPair least (pair_at s place) → GoodPairs least' (items_at pair_at 24 s place' left') → GoodPairs least (items_at pair_at 24 s place left)
    pairs-back g h =
        let f : least' ≡ suc (u32_at s place) = omega arith in
        subst (GoodPairs least) (sym cut) ((g.1, h.0), (g.0, subst (λ (n : ℕ). Rising n (items_at pair_at 24 s place' left')) f h.1))

pub no-pairs-left : (s : List ℕ) (least place left : ℕ) → left ≡ 0 → GoodPairs least (items_at pair_at 24 s place left)
no-pairs-left s least place left e = subst (λ (k : ℕ). GoodPairs least (items_at pair_at 24 s place k)) (sym e) (tt, tt)

few : (ps : List Pair) → SomeCluster ps → (length ps < 2 ^ 32) × All WidePair ps
few ps h = few-pairs ps h.1

-- ---- what the reader concludes

module _ (s : List ℕ) (bytes : Bytes s) (at : ℕ) where
  pair-wide : (p : ℕ) → WidePair (pair_at s p)
  pair-wide p =
      record {
        class = u32_at-fits s p bytes;
        before-grow = u32_at-fits s (p + 4) bytes;
        before-shrink = u32_at-fits s (p + 4 + 4) bytes;
        after-grow = u32_at-fits s (p + 12) bytes;
        after-shrink = u32_at-fits s (p + 12 + 4) bytes;
        flags-grow = u16_at-fits s (p + 20) bytes;
        flags-shrink = u16_at-fits s (p + 22) bytes;
      }

  pair-at : (p : ℕ) → p + 24 ≤ length s → drop p s ≡ pair_code (pair_at s p) ++ drop (p + 24) s
  pair-at p h =
      field32 s bytes p (p + 4) refl (omega arith) ∙ ap (λ (l : List ℕ). be32 (u32_at s p) ++ l)
      (field32 s bytes (p + 4) (p + 4 + 4) refl (omega arith) ∙ ap (λ (l : List ℕ). be32 (u32_at s (p + 4)) ++ l)
      (field32 s bytes (p + 4 + 4) (p + 12) (omega arith) (omega arith) ∙ ap (λ (l : List ℕ). be32 (u32_at s (p + 4 + 4)) ++ l)
      (field32 s bytes (p + 12) (p + 12 + 4) refl (omega arith) ∙ ap (λ (l : List ℕ). be32 (u32_at s (p + 12)) ++ l)
      (field32 s bytes (p + 12 + 4) (p + 20) (omega arith) (omega arith) ∙ ap (λ (l : List ℕ). be32 (u32_at s (p + 12 + 4)) ++ l)
      (field16 s bytes (p + 20) (p + 22) (omega arith) (omega arith) ∙ ap (λ (l : List ℕ). be16 (u16_at s (p + 20)) ++ l)
      (field16 s bytes (p + 22) (p + 24) (omega arith) (omega arith)))))))

  pub cluster-outside : (HasItems 24 s at → ⊥) → Absent cluster_code SomeCluster s at
  cluster-outside = items-outside pair_code WidePair pair-free pair_at 24 (λ a. refl) s bytes pair-wide pair-at SomeCluster few at

  module _ (k : ℕ) (there : HasItems 24 s at × (k ≡ u32_at s at)) where
    pub cluster-count : (1 ≤ k → k ≤ 128 → ⊥) → Absent cluster_code SomeCluster s at
    cluster-count n =
        refuse-count pair_code WidePair pair-free pair_at 24 (λ a. refl) s bytes pair-wide pair-at SomeCluster few at (omega (arith, there.0))
        (λ ys g e. n (omega (arith, g.0, there.1)) (omega (arith, g.1.0, there.1)))

    pub cluster-bad : (GoodPairs 0 (items_at pair_at 24 s (at + 4) k) → ⊥) → Absent cluster_code SomeCluster s at
    cluster-bad n = items-bad pair_code WidePair pair-free pair_at 24 (λ a. refl) s bytes pair-wide pair-at SomeCluster few at k there (λ g. n (g.1.1, g.1.2))

    pub cluster-good : 1 ≤ k → k ≤ 128 → GoodPairs 0 (items_at pair_at 24 s (at + 4) k) → Found cluster_code SomeCluster s at (at + 4 + 24 * k)
    cluster-good a b g =
        let n = items-length pair_at 24 s k (at + 4) in
        items-good pair_code WidePair pair-free pair_at 24 (λ a. refl) s bytes pair-wide pair-at SomeCluster few at k there
        (omega (arith, n), (omega (arith, n), g.0, g.1))
