-- The records of pairs by their number, in the form that a turn of a loop asks for: `i` of `n` are past.
use Prim.Native.Nat.{ℕ, suc, ◌+◌, ◌-◌, ◌≤◌, ◌<◌}
use mathlib.Core.List.{List}
use mathlib.Core.Option.{none, some}
use mathlib.Core.Path.{◌≡◌, refl, ◌∙◌}
use native.Mathlib.Omega.{arith}
use borrow.Author.Tests.{eq-eqb, ne_eqb}
use Rattle.meaning.specs.Ask.{record_of}
use Rattle.cluster.specs.Faults.{pair_class}
use Rattle.cluster.specs.Pairs.{pair_at, pairs_at}

rest : (n i : ℕ) → i < n → n - i ≡ suc (n - (i + 1))
rest n i h = omega arith

module _ (t : List ℕ) where
  pub record-here : (n i at class k : ℕ) → i < n → k ≡ pair_class t at → k ≡ class → record_of class (pairs_at t (n - i) at) ≡ some (pair_at t at)
  unfolding pairs_at pair_at
  record-here n i at class k h r e = rw (rest n i h, eq-eqb (pair_class t at) class (omega arith)) refl

  -- `p` is the pair after the one at `at` as the code has it
  pub record-next : (n i at class k p : ℕ) → i < n → k ≡ pair_class t at → (k ≡ class → ⊥) → p ≡ at + 24
      → record_of class (pairs_at t (n - i) at) ≡ record_of class (pairs_at t (n - (i + 1)) p)
  unfolding pairs_at pair_at
  record-next n i at class k p h r e s = rw (rest n i h, ne_eqb (pair_class t at) class (λ q. e (r ∙ q)), s) refl

  pub record-none : (n i at class : ℕ) → n ≤ i → record_of class (pairs_at t (n - i) at) ≡ none
  unfolding pairs_at
  record-none n i at class h = let z : n - i ≡ 0 = omega arith in rw z refl

pub ruleset cluster_steps = (record-here, record-next, record-none)
