-- Pairs one after the other, and the bytes of a cluster.
use Prim.Native.Nat.{ℕ, zero, suc, ◌+◌, ◌-◌, ◌*◌, ◌%◌, ◌≤◌, ◌<◌, min}
use mathlib.Core.Path.{◌≡◌, refl, sym, ap, ap₂, ◌∙◌}
use mathlib.Core.List.{List, [], ◌∷◌, ◌++◌}
use native.Mathlib.Omega.{arith}
use lib.ListN.{length, take}
use Rattle.fields.specs.Field.{u32_at, be32}
use Rattle.encoding.specs.Codes.{many, counted}
use Rattle.encoding.proofs.CodeLaws.{many-length}
use Rattle.types.specs.declared.Pair.{Pair}
use Rattle.meaning.specs.Sheet.{pair_code}
use Rattle.cluster.specs.Pairs.{pair_at, pairs_at, cluster_at}
use Rattle.cluster.proofs.Laws.{pairs-length, cluster-length}
use Rattle.write_cluster.specs.Hash.{pair_hash, pairs_hash, cluster_hash}

module _ (t : List ℕ) where
  pub pairs-cons : (n at : ℕ) → 0 < n → pairs_at t n at ≡ pair_at t at ∷ pairs_at t (n - 1) (at + 24)
  unfolding pairs_at
  pairs-cons zero at h = absurd (omega arith)
  pairs-cons (suc n) at h = let e : n ≡ suc n - 1 = omega arith in ap (λ (k : ℕ). pair_at t at ∷ pairs_at t k (at + 24)) e

  pub pairs-none : (n at : ℕ) → n ≤ 0 → pairs_at t n at ≡ []
  unfolding pairs_at
  pairs-none zero at h = refl
  pairs-none (suc n) at h = absurd (omega arith)

  -- from the i-th of n pairs on
  pub pairs-next : (n at i : ℕ) → i < n
      → pairs_at t (n - i) (at + 24 * i) ≡ pair_at t (at + 24 * i) ∷ pairs_at t (n - (i + 1)) (at + 24 * (i + 1))
  pairs-next n at i h =
      let k : n - i - 1 ≡ n - (i + 1) = omega arith in
      let p : at + 24 * i + 24 ≡ at + 24 * (i + 1) = omega arith in
      pairs-cons (n - i) (at + 24 * i) (omega arith) ∙ ap₂ (λ (m q : ℕ). pair_at t (at + 24 * i) ∷ pairs_at t m q) k p

  pub pairs-end : (n at i : ℕ) → n ≤ i → pairs_at t (n - i) at ≡ []
  pairs-end n at i h = pairs-none (n - i) at (omega arith)

  -- a cluster's pairs, its count as it was read
  pub cluster-pairs : (at n : ℕ) → n ≡ u32_at t at → pairs_at t n (at + 4) ≡ cluster_at t at
  unfolding cluster_at
  cluster-pairs at n e = ap (λ (k : ℕ). pairs_at t k (at + 4)) e

  pub cluster-bytes : (at : ℕ) → length (counted pair_code (cluster_at t at)) ≡ 4 + 24 * u32_at t at
  cluster-bytes at = omega (arith, many-length pair_code 24 (λ x. refl) (cluster_at t at), cluster-length t at)

  -- the count as it was read, then so many pairs
  pub cluster-code : (at n : ℕ) → n ≡ u32_at t at → be32 n ++ many pair_code (pairs_at t n (at + 4)) ≡ counted pair_code (cluster_at t at)
  unfolding cluster_at
  cluster-code at n e =
      ap (λ (k : ℕ). be32 k ++ many pair_code (pairs_at t n (at + 4))) (sym (pairs-length t n (at + 4)))
      ∙ ap (λ (k : ℕ). counted pair_code (pairs_at t k (at + 4))) e

-- ---- the number of a cluster

module _ (t : List ℕ) where
  pub hash-more : (n at i hash w : ℕ) → i < n → w ≡ pair_hash (pair_at t (at + 24 * i))
      → pairs_hash ((31 * hash + w) % 4294967296) (pairs_at t (n - (i + 1)) (at + 24 * (i + 1))) ≡ pairs_hash hash (pairs_at t (n - i) (at + 24 * i))
  unfolding pairs_hash
  hash-more n at i hash w h e =
      ap (λ (k : ℕ). pairs_hash ((31 * hash + k) % 4294967296) (pairs_at t (n - (i + 1)) (at + 24 * (i + 1)))) e
      ∙ ap (pairs_hash hash) (sym (pairs-next t n at i h))

  pub hash-end : (n at i hash : ℕ) → n ≤ i → pairs_hash hash (pairs_at t (n - i) at) ≡ hash
  unfolding pairs_hash
  hash-end n at i hash h = ap (pairs_hash hash) (pairs-end t n at i h)

  take-pairs : (k n at : ℕ) → take k (pairs_at t n at) ≡ pairs_at t (min n k) at
  unfolding pairs_at
  take-pairs zero n at = let e : 0 ≡ min n 0 = omega arith in ap (λ (m : ℕ). pairs_at t m at) e
  take-pairs (suc k) zero at = let e : 0 ≡ min 0 (suc k) = omega arith in ap (λ (m : ℕ). pairs_at t m at) e
  take-pairs (suc k) (suc n) at =
      let e : suc (min n k) ≡ min (suc n) (suc k) = omega arith in
      ap (λ (l : List Pair). pair_at t at ∷ l) (take-pairs k n (at + 24)) ∙ ap (λ (m : ℕ). pairs_at t m at) e

  pub hash-all : (at n left p : ℕ) → n ≡ u32_at t at → left ≡ min n 4 → p ≡ at + 4 → pairs_hash n (pairs_at t left p) ≡ cluster_hash (cluster_at t at)
  unfolding cluster_at
  hash-all at n left p e f g =
      ap₂ (λ (m q : ℕ). pairs_hash n (pairs_at t m q)) f g
      ∙ ap₂ pairs_hash (sym (pairs-length t n (at + 4))) (sym (take-pairs 4 n (at + 4)))
      ∙ ap (λ (m : ℕ). cluster_hash (pairs_at t m (at + 4))) e
