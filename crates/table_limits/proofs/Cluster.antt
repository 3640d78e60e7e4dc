-- The cluster of 128 pairs has no fault wherever it stands.
use Prim.Native.Nat.{ℕ, zero, suc, ◌+◌, ◌*◌, ◌%◌, ◌≤◌, ◌<◌}
use mathlib.Core.Path.{◌≡◌, refl, ap, ◌∙◌}
use mathlib.Core.Bool.{◌&&◌}
use mathlib.Core.List.{List}
use native.Mathlib.Omega.{arith}
use native.Mathlib.Nat.{mod-eq_of_lt}
use lib.Dec.{leb}
use lib.ListN.{length, length-append}
use borrow.Author.Tests.{le-leb}
use Rattle.fields.specs.declared.Refusal.TheVariants.{BadCluster}
use Rattle.fields.specs.Faults.{Clear}
use Rattle.fields.specs.Field.{u16_at, u32_at, be32}
use Rattle.fields.specs.Faults.{inside}
use Rattle.fields.specs.Walk.{walk}
use Rattle.fields.proofs.Laws.{rule-clear}
use Rattle.units.specs.Fixed.{fixed_size}
use Rattle.units.specs.Flags.{priority_of}
use Rattle.meaning.specs.Limits.{em_limit}
use Rattle.cluster.specs.Faults.{pair_class, pair_class_fault, grow_fault, shrink_fault, flags_fault, pair_fault, pairs_fault, cluster_fault}
use Rattle.table_limits.specs.Full.{pair_of, pairs, full_cluster}
use Rattle.table_limits.proofs.Stands.{Stands, front, back, found, u16-is, u32-is, ◌so◌}

-- ---- the fields of a pair

pair-length : (c : ℕ) → length (pair_of c) ≡ 24
unfolding pair_of
pair-length c = refl

pair-class : (c : ℕ) → u32_at (pair_of c) 0 ≡ c
unfolding pair_of u32_at u16_at
pair-class c = omega arith

pair-limits : (c : ℕ) → (u32_at (pair_of c) 4 ≡ 0x00100000) × (u32_at (pair_of c) 8 ≡ 0x00100000) × (u32_at (pair_of c) 12 ≡ 0x00100000) × (u32_at (pair_of c) 16 ≡ 0xFFF00000)
unfolding pair_of u32_at u16_at
pair-limits c = (refl, refl, refl, refl)

pair-flags : (c : ℕ) → (u16_at (pair_of c) 20 ≡ 0x1003) × (u16_at (pair_of c) 22 ≡ 3)
unfolding pair_of u16_at
pair-flags c = (refl, refl)

-- ---- fields at their limits

module _ (t : List ℕ) (p : ℕ) where
  grow-clear : inside t p 4 ≡ Clear → u32_at t p ≡ 0x00100000 → grow_fault t p ≡ Clear
  unfolding grow_fault
  grow-clear i e = i so rule-clear BadCluster p (ap (λ (x : ℕ). leb x em_limit) e)

  -- of either sign
  shrink-clear : inside t p 4 ≡ Clear → u32_at t p ≡ 0x00100000 → shrink_fault t p ≡ Clear
  unfolding shrink_fault fixed_size
  shrink-clear i e = i so rule-clear BadCluster p (ap (λ (x : ℕ). leb (fixed_size x) em_limit) e)

  shrink-below : inside t p 4 ≡ Clear → u32_at t p ≡ 0xFFF00000 → shrink_fault t p ≡ Clear
  unfolding shrink_fault fixed_size
  shrink-below i e = i so rule-clear BadCluster p (ap (λ (x : ℕ). leb (fixed_size x) em_limit) e)

  flags-clear : (f : ℕ) → inside t p 2 ≡ Clear → u16_at t p ≡ f → priority_of f ≡ 3 → flags_fault t p ≡ Clear
  unfolding flags_fault
  flags-clear f i e h = i so rule-clear BadCluster p (ap (λ (x : ℕ). leb (priority_of x) 3) e ∙ ap (λ (x : ℕ). leb x 3) h)

-- ---- a pair, and pairs

module _ {t : List ℕ} {at : ℕ} (c : ℕ) (s : Stands t at (pair_of c)) (low : c < 128) where
  n : length (pair_of c) ≡ 24
  n = pair-length c

  class-is : pair_class t at ≡ c
  unfolding pair_class
  class-is = ap (λ (x : ℕ). x % 128) (u32-is s at 0 (omega arith) (omega (arith, n)) ∙ pair-class c) ∙ mod-eq_of_lt low

  pair-clear : pair_fault t at c ≡ Clear
  unfolding pair_fault pair_class_fault
  pair-clear =
      (found s at 0 (omega arith) 4 (omega (arith, n)) so rule-clear BadCluster at (le-leb c (pair_class t at) (omega (arith, class-is))))
      so grow-clear t (at + 4) (found s (at + 4) 4 refl 4 (omega (arith, n))) (u32-is s (at + 4) 4 refl (omega (arith, n)) ∙ (pair-limits c).0)
      so shrink-clear t (at + 8) (found s (at + 8) 8 refl 4 (omega (arith, n))) (u32-is s (at + 8) 8 refl (omega (arith, n)) ∙ (pair-limits c).1)
      so grow-clear t (at + 12) (found s (at + 12) 12 refl 4 (omega (arith, n))) (u32-is s (at + 12) 12 refl (omega (arith, n)) ∙ (pair-limits c).2)
      so shrink-below t (at + 16) (found s (at + 16) 16 refl 4 (omega (arith, n))) (u32-is s (at + 16) 16 refl (omega (arith, n)) ∙ (pair-limits c).3)
      so flags-clear t (at + 20) 0x1003 (found s (at + 20) 20 refl 2 (omega (arith, n))) (u16-is s (at + 20) 20 refl (omega (arith, n)) ∙ (pair-flags c).0) refl
      so flags-clear t (at + 22) 3 (found s (at + 22) 22 refl 2 (omega (arith, n))) (u16-is s (at + 22) 22 refl (omega (arith, n)) ∙ (pair-flags c).1) refl

pairs-clear : {t : List ℕ} (n c at : ℕ) → Stands t at (pairs n c) → c + n ≤ 128 → pairs_fault t n at c ≡ Clear
unfolding walk pairs
pairs-clear zero c at s h = refl
pairs-clear {t} (suc n) c at s h =
    let here : Stands t at (pair_of c) = front (pair_of c) (pairs n (c + 1)) s in
    let low : c < 128 = omega arith in
    let next : pair_class t at + 1 ≡ c + 1 = ap (λ (x : ℕ). x + 1) (class-is c here low) in
    pair-clear c here low
    so (ap (walk (pair_fault t) (λ p. p + 24) (λ p. pair_class t p + 1) n (at + 24)) next
    ∙ pairs-clear n (c + 1) (at + 24) (back (pair_of c) (pairs n (c + 1)) s 24 (at + 24) (pair-length c) refl) (omega arith))

pub pairs-length : (n c : ℕ) → length (pairs n c) ≡ 24 * n
unfolding pairs
pairs-length zero c = refl
pairs-length (suc n) c = length-append (pair_of c) (pairs n (c + 1)) ∙ omega (arith, pair-length c, pairs-length n (c + 1))

-- ---- the cluster

counted : u32_at (be32 128) 0 ≡ 128
unfolding u32_at u16_at
counted = refl

pub cluster-length : length full_cluster ≡ 3076
unfolding full_cluster
cluster-length = length-append (be32 128) (pairs 128 0) ∙ ap (λ (k : ℕ). 4 + k) (pairs-length 128 0)

module _ {t : List ℕ} (at : ℕ) (s : Stands t at full_cluster) where
  -- it counts 128 pairs
  pub cluster-count : u32_at t at ≡ 128
  unfolding full_cluster
  cluster-count = u32-is (front (be32 128) (pairs 128 0) s) at 0 (omega arith) (omega arith) ∙ counted

  pub cluster-clear : cluster_fault t at ≡ Clear
  unfolding cluster_fault full_cluster
  cluster-clear =
      found (front (be32 128) (pairs 128 0) s) at 0 (omega arith) 4 (omega arith)
      so rule-clear BadCluster at (ap (λ (x : ℕ). leb 1 x && leb x 128) cluster-count)
      so (ap (λ (k : ℕ). pairs_fault t k (at + 4) 0) cluster-count
      ∙ pairs-clear 128 0 (at + 4) (back (be32 128) (pairs 128 0) s 4 (at + 4) refl refl) (omega arith))
