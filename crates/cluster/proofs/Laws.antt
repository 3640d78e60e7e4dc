-- What a cluster without fault is: its count is 1 to 128, it lies inside the table, and its pairs keep the limits.
use Prim.Native.Nat.{ℕ, zero, suc, ◌+◌, ◌*◌, ◌≤◌, ◌<◌}
use mathlib.Core.Path.{◌≡◌, refl, ap, subst}
use mathlib.Core.Bool.{Bool, true, false, ◌&&◌}
use mathlib.Core.List.{List}
use native.Mathlib.Omega.{arith}
use native.Mathlib.Nat.{mod-lt}
use native.Mathlib.Numerals.{add-one}
use lib.ListN.{length}
use lib.Dec.{leb}
use borrow.Author.Tests.{leb-true}
use Rattle.fields.specs.Faults.{Clear}
use Rattle.fields.specs.declared.Refusal.TheVariants.{BadCluster}
use Rattle.fields.specs.Field.{u16_at, u32_at}
use Rattle.fields.specs.Walk.{walk}
use Rattle.fields.proofs.Laws.{then-first, then-second, rule-holds, inside-holds}
use Rattle.units.specs.Fixed.{fixed_size}
use Rattle.units.specs.Flags.{priority_of, width_flags, kept_flags, is_unlimited}
use Rattle.encoding.specs.Codes.{All}
use Rattle.meaning.specs.Limits.{em_limit, OkFlags, OkPair, Rising, OkCluster}
use Rattle.cluster.specs.Faults.{pair_class, pair_class_fault, grow_fault, shrink_fault, flags_fault, pair_fault, pairs_fault, cluster_fault}
use Rattle.cluster.specs.Pairs.{pair_at, pairs_at, cluster_at}

and_first : (a b : Bool) → (a && b) ≡ true → a ≡ true
and_first true b e = refl
and_first false b e = e

and_second : (a b : Bool) → (a && b) ≡ true → b ≡ true
and_second true b e = e
and_second false b e = cc

width-ok : (u : Bool) (p : ℕ) → p ≤ 3 → OkFlags (width_flags u p)
unfolding width_flags
width-ok true p h = (omega arith, omega arith)
width-ok false p h = (omega arith, omega arith)

module _ (t : List ℕ) where
  pub pairs-length : (n at : ℕ) → length (pairs_at t n at) ≡ n
  unfolding pairs_at
  pairs-length zero at = refl
  pairs-length (suc n) at = ap suc (pairs-length n (at + 24))

  pub cluster-length : (at : ℕ) → length (cluster_at t at) ≡ u32_at t at
  unfolding cluster_at
  cluster-length at = pairs-length (u32_at t at) (at + 4)

  -- ---- a pair without fault

  class_low : (at : ℕ) → pair_class t at < 128
  unfolding pair_class
  class_low at = mod-lt (u32_at t at) (omega arith)

  class-rises : (at least : ℕ) → pair_class_fault t at least ≡ Clear → least ≤ pair_class t at
  unfolding pair_class_fault
  class-rises at least e = leb-true _ _ (rule-holds _ BadCluster at (then-second _ _ e))

  grow-ok : (at : ℕ) → grow_fault t at ≡ Clear → u32_at t at ≤ em_limit
  unfolding grow_fault
  grow-ok at e = leb-true _ _ (rule-holds _ BadCluster at (then-second _ _ e))

  shrink-ok : (at : ℕ) → shrink_fault t at ≡ Clear → fixed_size (u32_at t at) ≤ em_limit
  unfolding shrink_fault
  shrink-ok at e = leb-true _ _ (rule-holds _ BadCluster at (then-second _ _ e))

  flags-ok : (at : ℕ) → flags_fault t at ≡ Clear → OkFlags (kept_flags (u16_at t at))
  unfolding flags_fault
  flags-ok at e =
      width-ok (is_unlimited (u16_at t at)) (priority_of (u16_at t at)) (leb-true _ _ (rule-holds _ BadCluster at (then-second _ _ e)))

  flags-inside : (at : ℕ) → flags_fault t at ≡ Clear → at + 2 ≤ length t
  unfolding flags_fault
  flags-inside at e = inside-holds t at 2 (then-first _ _ e)

  pair_ok : (at least : ℕ) → pair_fault t at least ≡ Clear → OkPair (pair_at t at)
  unfolding pair_fault pair_at
  pair_ok at least e =
      let e1 = then-second _ _ e in
      let e2 = then-second _ _ e1 in
      let e3 = then-second _ _ e2 in
      let e4 = then-second _ _ e3 in
      let e5 = then-second _ _ e4 in (
        class_low at,
        (grow-ok (at + 4) (then-first _ _ e1), shrink-ok (at + 8) (then-first _ _ e2)),
        (grow-ok (at + 12) (then-first _ _ e3), shrink-ok (at + 16) (then-first _ _ e4)),
        flags-ok (at + 20) (then-first _ _ e5),
        flags-ok (at + 22) (then-second _ _ e5),
      )

  pair-rises : (at least : ℕ) → pair_fault t at least ≡ Clear → least ≤ pair_class t at
  unfolding pair_fault
  pair-rises at least e = class-rises at least (then-first _ _ e)

  pub pair_inside : (at least : ℕ) → pair_fault t at least ≡ Clear → at + 24 ≤ length t
  unfolding pair_fault
  pair_inside at least e =
      omega (arith, flags-inside (at + 22) (then-second _ _ (then-second _ _ (then-second _ _ (then-second _ _ (then-second _ _ (then-second _ _ e)))))))

  -- ---- pairs without fault

  pairs-all : (n at least : ℕ) → pairs_fault t n at least ≡ Clear → All OkPair (pairs_at t n at)
  unfolding walk pairs_at
  pairs-all zero at least e = tt
  pairs-all (suc n) at least e = (pair_ok at least (then-first _ _ e), pairs-all n (at + 24) (pair_class t at + 1) (then-second _ _ e))

  pairs-rise : (n at least : ℕ) → pairs_fault t n at least ≡ Clear → Rising least (pairs_at t n at)
  unfolding walk pairs_at pair_at
  pairs-rise zero at least e = tt
  pairs-rise (suc n) at least e = (
    pair-rises at least (then-first _ _ e),
    subst (λ (k : ℕ). Rising k (pairs_at t n (at + 24))) (add-one (pair_class t at)) (pairs-rise n (at + 24) (pair_class t at + 1) (then-second _ _ e)),
  )

  pairs-inside : (n at least : ℕ) → pairs_fault t n at least ≡ Clear → at ≤ length t → at + 24 * n ≤ length t
  unfolding walk
  pairs-inside zero at least e h = omega arith
  pairs-inside (suc n) at least e h =
      let here : at + 24 ≤ length t = pair_inside at least (then-first _ _ e) in
      let rest : at + 24 + 24 * n ≤ length t = pairs-inside n (at + 24) (pair_class t at + 1) (then-second _ _ e) here in
      omega arith

  -- ---- a cluster without fault

  pub cluster-few : (at : ℕ) → cluster_fault t at ≡ Clear → u32_at t at ≤ 128
  unfolding cluster_fault
  cluster-few at e =
      leb-true _ _ (and_second (leb 1 (u32_at t at)) (leb (u32_at t at) 128) (rule-holds _ BadCluster at (then-first _ _ (then-second _ _ e))))

  pub cluster-inside : (at : ℕ) → cluster_fault t at ≡ Clear → at + 4 + 24 * u32_at t at ≤ length t
  unfolding cluster_fault
  cluster-inside at e = pairs-inside (u32_at t at) (at + 4) 0 (then-second _ _ (then-second _ _ e)) (inside-holds t at 4 (then-first _ _ e))

  pub cluster-ok : (at : ℕ) → cluster_fault t at ≡ Clear → OkCluster (cluster_at t at)
  unfolding cluster_fault cluster_at
  cluster-ok at e =
      let e2 = then-second _ _ (then-second _ _ e) in
      (omega (arith, cluster-length at, cluster-few at e), pairs-all (u32_at t at) (at + 4) 0 e2, pairs-rise (u32_at t at) (at + 4) 0 e2)
