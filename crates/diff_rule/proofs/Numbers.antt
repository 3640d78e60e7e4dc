-- Numbers stored one after the other: what is left to store after one more.
use Rattle.std.proofs.Common.{◌≡◌, ℕ, suc, ◌+◌, ◌<◌, ◌≤◌, List, length, get_or, set, drop, arith, refl, sym, ap, ◌∙◌}
use Rattle.std.proofs.lemmas.List.Edits.{sets}
use Rattle.std.proofs.Math.Seq.{drop-cons, set_out}

-- one number more: what is left is stored after it
pub next : (xs l : List ℕ) (i k : ℕ) → k < length xs → sets (set l (i + k) (get_or xs k 0)) (i + (k + 1)) (drop (k + 1) xs) ≡ sets l (i + k) (drop k xs)
next xs l i k h =
    let place : suc (i + k) ≡ i + (k + 1) = omega arith in
    let rest : suc k ≡ k + 1 = omega arith in
    rw (drop-cons xs k 0, ← place, ← rest) refl

-- one that would stand past the end is not stored
pub next_out : (xs l : List ℕ) (i k : ℕ) → k < length xs → length l ≤ i + k → sets l (i + (k + 1)) (drop (k + 1) xs) ≡ sets l (i + k) (drop k xs)
next_out xs l i k h out =
    ap (λ (m : List ℕ). sets m (i + (k + 1)) (drop (k + 1) xs)) (sym (set_out l (i + k) (get_or xs k 0) out)) ∙ next xs l i k h
