-- Laws of things that follow each other: where the first has a fault, where it has none, and what a clear walk says of each.
use Prim.Native.Nat.{ℕ, zero, suc, ◌+◌, ◌-◌, ◌*◌, ◌≤◌, ◌<◌}
use Rattle.std.specs.Prelude.{◌≡◌}
use Rattle.std.proofs.Math.Path.{refl}
use Rattle.std.proofs.Common.{◌∙◌, arith}
use Rattle.fields.specs.declared.Refusal.{Refusal}
use Rattle.std.specs.Prelude.{Ok, Err}
use Rattle.fields.specs.declared.Fault.{Fault}
use Rattle.fields.specs.Faults.{FirstFault, earlier}
use Rattle.fields.specs.Faults.{Clear, Bad}
use Rattle.fields.specs.Walk.{walk}
use Rattle.fields.proofs.Laws.{then-first, then-second, then-stop, then-go}

down : (n : ℕ) → suc n - 1 ≡ n
down n = omega arith

module _ (one : ℕ → ℕ → FirstFault) (to next : ℕ → ℕ) where
  pub walk-stop : (n at least : ℕ) {r : Refusal} {p : ℕ} → 0 < n → one at least ≡ Bad r p → walk one to next n at least ≡ one at least
  unfolding walk
  walk-stop zero at least h e = absurd (omega arith)
  walk-stop (suc n) at least h e = then-stop _ e

  -- `p` and `k` are `to at` and `next at` as the code has them
  pub walk-next : (n at least p k : ℕ) → 0 < n → one at least ≡ Clear → p ≡ to at → k ≡ next at
      → walk one to next n at least ≡ walk one to next (n - 1) p k
  unfolding walk
  walk-next zero at least p k h e q s = absurd (omega arith)
  walk-next (suc n) at least p k h e q s = then-go _ e ∙ simp (down n, q, s)

  pub walk_none : (n at least : ℕ) → n ≤ 0 → walk one to next n at least ≡ Clear
  unfolding walk
  walk_none zero at least h = refl
  walk_none (suc n) at least h = absurd (omega arith)

-- where a clear thing of `size` bytes lies within `m` bytes, so do clear things that follow each other
pub walk-within : (one : ℕ → ℕ → FirstFault) (size : ℕ) (next : ℕ → ℕ) (m : ℕ) → ((at least : ℕ) → one at least ≡ Clear → at + size ≤ m)
    → (n at least : ℕ) → walk one (λ p. p + size) next n at least ≡ Clear → at ≤ m + size → at + size * n ≤ m + size
unfolding walk
walk-within one size next m in-m zero at least e h = omega arith
walk-within one size next m in-m (suc n) at least e h =
    let here : at + size ≤ m = in-m at least (then-first _ _ e) in
    let rest : at + size + size * n ≤ m + size = walk-within one size next m in-m n (at + size) (next at) (then-second _ _ e) (omega arith) in
    omega arith

-- each thing of a clear walk is clear; the i-th of things of `size` bytes stands at at + size × i
pub walk-each : (one : ℕ → ℕ → FirstFault) (size : ℕ) (next : ℕ → ℕ) (n at least : ℕ) → walk one (λ p. p + size) next n at least ≡ Clear
    → (i : ℕ) → i < n → (l : ℕ) × (one (at + size * i) l ≡ Clear)
unfolding walk
walk-each one size next zero at least e i h = absurd (omega arith)
walk-each one size next (suc n) at least e zero h = let p : at + size * 0 ≡ at = omega arith in (least, rw p (then-first _ _ e))
walk-each one size next (suc n) at least e (suc i) h =
    let r = walk-each one size next n (at + size) (next at) (then-second _ _ e) i (omega arith) in
    let p : at + size * suc i ≡ at + size + size * i = omega arith in
    (r.0, rw p r.1)

-- ---- a loop over the things by their number: `i` of `n` are past

module _ (one : ℕ → ℕ → FirstFault) (to next : ℕ → ℕ) where
  rest : (n i : ℕ) → i < n → n - i ≡ suc (n - (i + 1))
  rest n i h = omega arith

  -- the one at `at` has a fault
  pub walk-fails : (n i at least : ℕ) (f : Fault) → i < n → one at least ≡ Err f → walk one to next (n - i) at least ≡ Err f
  unfolding walk earlier
  walk-fails n i at least f h e = rw (rest n i h, e) refl

  -- it has none; `p` and `k` are `to at` and `next at` as the code has them
  pub walk-goes : (n i at least p k : ℕ) (u : Unit) → i < n → one at least ≡ Ok u → p ≡ to at → k ≡ next at
      → walk one to next (n - i) at least ≡ walk one to next (n - (i + 1)) p k
  unfolding walk earlier
  walk-goes n i at least p k u h e q s = rw (rest n i h, e, q, s) refl

  pub walk-ends : (n i at least : ℕ) → n ≤ i → walk one to next (n - i) at least ≡ Clear
  unfolding walk
  walk-ends n i at least h = let z : n - i ≡ 0 = omega arith in rw z refl

-- what a loop over such things needs
pub ruleset walk_steps = (walk-fails, walk-goes, walk-ends)
