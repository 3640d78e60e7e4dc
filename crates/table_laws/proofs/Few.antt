-- A list of things that have numbers below m has at most m distinct elements.
use Prim.Native.Nat.{ℕ, zero, suc, ◌+◌, ◌≤◌, ◌<◌}
use mathlib.Core.Path.{◌≡◌, ap, sym, ◌∙◌, subst}
use mathlib.Core.Logic.{ite, if_pos, if_neg}
use mathlib.Core.List.{List, [], ◌∷◌, ◌++◌}
use native.Mathlib.Omega.{arith}
use native.Mathlib.Decide.{ℕ_discrete}
use lib.ListN.{length, length-append}
use Rattle.encoding.specs.Codes.{All}
use Rattle.encoding.specs.Distinct.{index, distinct}
use Rattle.encoding.proofs.DistinctLaws.{index-le, index-append, index-new}

module _ {A : Type 0} (eq : Discrete A) where
  -- 1 where x is not among those seen
  abbrev fresh : A → List A → ℕ
  fresh x seen = ite (ℕ_discrete (index eq x seen) (length seen)) 1 0

  fresh-most : (x : A) (seen : List A) → fresh x seen ≤ 1
  fresh-most x seen = go (ℕ_discrete (index eq x seen) (length seen))
    where
      go : (d : Dec (index eq x seen ≡ length seen)) → ite d 1 0 ≤ 1
      go (yes p) = omega arith
      go (no p) = omega arith

  fresh-new : (x : A) (seen : List A) → index eq x seen ≡ length seen → fresh x seen ≡ 1
  fresh-new x seen h = if_pos (ℕ_discrete (index eq x seen) (length seen)) h _ _

  fresh-seen : (x : A) (seen : List A) → index eq x seen < length seen → fresh x seen ≡ 0
  fresh-seen x seen h = if_neg (ℕ_discrete (index eq x seen) (length seen)) (λ e. omega arith) _ _

  -- what is seen stays seen
  fresh-less : (x y : A) (seen : List A) → fresh y (seen ++ (x ∷ [])) ≤ fresh y seen
  fresh-less x y seen = go (ℕ_discrete (index eq y seen) (length seen))
    where
      go : Dec (index eq y seen ≡ length seen) → fresh y (seen ++ (x ∷ [])) ≤ fresh y seen
      go (yes p) = omega (arith, fresh-new y seen p, fresh-most y (seen ++ (x ∷ [])))
      go (no p) =
          let l : index eq y seen < length seen = omega (arith, index-le eq y seen, p) in
          let m : length (seen ++ (x ∷ [])) ≡ length seen + 1 = length-append seen (x ∷ []) in
          omega (arith, fresh-seen y (seen ++ (x ∷ [])) (omega (arith, index-append eq y seen (x ∷ []) l)))

  module _ (f : ℕ → A) where
    -- how many of the numbers below m name a thing that is not among those seen
    abbrev left : ℕ → List A → ℕ
    left zero seen = 0
    left (suc m) seen = fresh (f m) seen + left m seen

    left-most : (m : ℕ) (seen : List A) → left m seen ≤ m
    left-most zero seen = omega arith
    left-most (suc m) seen = omega (arith, fresh-most (f m) seen, left-most m seen)

    left_less : (m : ℕ) (x : A) (seen : List A) → left m (seen ++ (x ∷ [])) ≤ left m seen
    left_less zero x seen = omega arith
    left_less (suc m) x seen = omega (arith, fresh-less x (f m) seen, left_less m x seen)

    -- one less once a new one is seen
    left-falls : (m k : ℕ) (seen : List A) → k < m → index eq (f k) seen ≡ length seen → left m (seen ++ (f k ∷ [])) + 1 ≤ left m seen
    left-falls zero k seen h e = absurd (omega arith)
    left-falls (suc m) k seen h e = go (ℕ_discrete k m) (λ l. left-falls m k seen l e)
      where
        go : Dec (k ≡ m) → (k < m → left m (seen ++ (f k ∷ [])) + 1 ≤ left m seen) → left (suc m) (seen ++ (f k ∷ [])) + 1 ≤ left (suc m) seen
        go (yes p) ih =
            let n : index eq (f k) (seen ++ (f k ∷ [])) ≡ length seen = index-new eq (f k) seen [] e in
            let l : length (seen ++ (f k ∷ [])) ≡ length seen + 1 = length-append seen (f k ∷ []) in
            let a : fresh (f m) (seen ++ (f k ∷ [])) ≡ 0 =
            ap (λ (j : ℕ). fresh (f j) (seen ++ (f k ∷ []))) (sym p) ∙ fresh-seen (f k) (seen ++ (f k ∷ [])) (omega arith) in
            let b : fresh (f m) seen ≡ 1 = ap (λ (j : ℕ). fresh (f j) seen) (sym p) ∙ fresh-new (f k) seen e in
            omega (arith, left_less m (f k) seen)
        go (no p) ih = omega (arith, fresh-less (f k) (f m) seen, ih (omega arith))

    -- x has a number below m
    abbrev pub Below : ℕ → A → Type 0
    Below m x = (k : ℕ) × (k < m) × (f k ≡ x)

    few-more : (m : ℕ) (xs seen : List A) → All (Below m) xs → length (distinct eq seen xs) ≤ length seen + left m seen
    few-more m [] seen a = omega arith
    few-more m (x ∷ xs) seen a =
        go a.0 (ℕ_discrete (index eq x seen) (length seen)) (few-more m xs (seen ++ (x ∷ [])) a.1) (few-more m xs seen a.1)
      where
        go : Below m x → (d : Dec (index eq x seen ≡ length seen)) → length (distinct eq (seen ++ (x ∷ [])) xs) ≤ length (seen ++ (x ∷ [])) + left m (seen ++ (x ∷ []))
            → length (distinct eq seen xs) ≤ length seen + left m seen
            → length (ite d (distinct eq (seen ++ (x ∷ [])) xs) (distinct eq seen xs)) ≤ length seen + left m seen
        go b (yes p) i j =
            let q : index eq (f b.0) seen ≡ length seen = ap (λ (y : A). index eq y seen) b.2 ∙ p in
            let l : left m (seen ++ (x ∷ [])) + 1 ≤ left m seen =
            subst (λ (y : A). left m (seen ++ (y ∷ [])) + 1 ≤ left m seen) b.2 (left-falls m b.0 seen b.1 q) in
            omega (arith, length-append seen (x ∷ []))
        go b (no p) i j = j

    -- at most m are distinct
    pub few-distinct : (m : ℕ) (xs : List A) → All (Below m) xs → length (distinct eq [] xs) ≤ m
    few-distinct m xs a = omega (arith, few-more m xs [] a, left-most m [])
