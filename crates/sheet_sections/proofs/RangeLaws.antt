-- What `any` and `all` over a range of numbers say of the numbers in it.
use Rattle.std.proofs.Common.{◌≡◌, ℕ, ◌<◌, Bool, true, false, length, subst, get_or, arith}
use Rattle.std.specs.Bool.{MatchBool}
use Rattle.std.specs.List.{range_with_len, AllWithin, HoldsAt}
use Rattle.std.proofs.lemmas.List.FromFn.{length-range_with_len, get_or-range_with_len}
use Rattle.encoding.specs.Tests.{Says}

-- what is the same as P is said with it
pub says-same : (b : Bool) (P Q : Type 0) → (P → Q) → (Q → P) → Says b P → Says b Q
says-same true P Q f g h = f h
says-same false P Q f g h = λ q. h (g q)

module _ (P : ℕ → Type 0) (n : ℕ) where
  at-range : (k : ℕ) → k < n → get_or (range_with_len 0 n) k 0 ≡ k
  at-range k l = omega (arith, get_or-range_with_len 0 n k 0 l)

  pub says-all : (b : Bool) → MatchBool b (AllWithin P (range_with_len 0 n) 0 (length (range_with_len 0 n)))
      ((k : ℕ) × (k < length (range_with_len 0 n)) × HoldsAt (λ x. P x → ⊥) (range_with_len 0 n) k) → Says b ((k : ℕ) → k < n → P k)
  says-all true h = λ k l. subst P (at-range k l) (h k 0 (omega arith) (omega (arith, l, length-range_with_len 0 n)))
  says-all false h =
      let l : h.0 < n = omega (arith, h.1, length-range_with_len 0 n) in
      λ a. subst (λ x. P x → ⊥) (at-range h.0 l) (h.2 0) (a h.0 l)

  pub says-any : (b : Bool) → MatchBool b ((k : ℕ) × (k < length (range_with_len 0 n)) × HoldsAt P (range_with_len 0 n) k)
      (AllWithin (λ x. P x → ⊥) (range_with_len 0 n) 0 (length (range_with_len 0 n))) → Says b ((k : ℕ) × (k < n) × P k)
  says-any true h = let l : h.0 < n = omega (arith, h.1, length-range_with_len 0 n) in (h.0, l, subst P (at-range h.0 l) (h.2 0))
  says-any false h = λ a. subst (λ x. P x → ⊥) (at-range a.0 a.1) (h a.0 0 (omega arith) (omega (arith, a.1, length-range_with_len 0 n))) a.2
