-- How differences are stored, five numbers each.
use Prim.Native.Nat.{ℕ, ◌+◌, ◌*◌}
use mathlib.Core.Path.{◌≡◌, refl, sym, ap, ◌∙◌, subst}
use lib.Seq.{sets}
use mathlib.Core.List.{List, [], ◌∷◌, ◌++◌, append_assoc}
use native.Mathlib.Omega.{arith}
use lib.ListN.{length, length-append}
use Rattle.fields.specs.Stores.{put_two}
use Rattle.encoding.proofs.CodeLaws.{many-length}
use Rattle.diff_rule.specs.declared.Difference.{Difference}
use Rattle.diff_rule.specs.Order.{numbers_of, all_numbers, Stores}

pub numbers-length : (xs : List Difference) → length (all_numbers xs) ≡ 5 * length xs
unfolding all_numbers numbers_of
numbers-length xs = omega (arith, many-length numbers_of 5 (λ x. refl) xs)

pub numbers-append : (xs ys : List Difference) → all_numbers (xs ++ ys) ≡ all_numbers xs ++ all_numbers ys
unfolding all_numbers
numbers-append [] ys = refl
numbers-append (x ∷ xs) ys = ap (λ (l : List ℕ). numbers_of x ++ l) (numbers-append xs ys) ∙ sym (append_assoc (numbers_of x) (all_numbers xs) (all_numbers ys))

-- ---- stored, one after the other

pub stores-two : (xs ys : List Difference) (l₀ l₁ l₂ : List ℕ) (to m e : ℕ) → Stores l₀ l₁ to m xs → Stores l₁ l₂ m e ys → Stores l₀ l₂ to e (xs ++ ys)
stores-two xs ys l₀ l₁ l₂ to m e a b =
    let all : all_numbers (xs ++ ys) ≡ all_numbers xs ++ all_numbers ys = numbers-append xs ys in
    let n : length (all_numbers xs ++ all_numbers ys) ≡ length (all_numbers xs) + length (all_numbers ys) = length-append (all_numbers xs) (all_numbers ys) in
    (put_two (all_numbers xs) (all_numbers ys) l₀ l₁ l₂ to m a.1 a.0 b.0 ∙ ap (sets l₀ to) (sym all), omega (arith, a.1, b.1, n, ap length all))

pub stores-none : (l : List ℕ) (to : ℕ) → Stores l l to to []
unfolding all_numbers
stores-none l to = (refl, omega arith)

pub stores-other : (l₀ l : List ℕ) (to e : ℕ) (xs ys : List Difference) → xs ≡ ys → Stores l₀ l to e xs → Stores l₀ l to e ys
stores-other l₀ l to e xs ys q w = subst (Stores l₀ l to e) q w
