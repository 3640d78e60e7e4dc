-- A list written as distinct items and runs of their numbers: what its sections hold, and where an item's number leads.
use Prim.Native.Nat.{ℕ, zero, suc, ◌≤◌, ◌<◌, ◌^◌}
use mathlib.Core.Path.{◌≡◌, refl, sym, ap, ◌∙◌}
use mathlib.Core.Logic.{ite}
use mathlib.Core.List.{List, [], ◌∷◌, ◌++◌, append_assoc}
use native.Mathlib.Decide.{ℕ_discrete, dec_lt}
use native.Mathlib.Omega.{arith}
use lib.ListN.{length, get_or, drop, length-drop, get_or-eq_default}
use Rattle.fields.specs.Field.{Bytes}
use Rattle.encoding.specs.Codes.{All, counted}
use Rattle.encoding.specs.Runs.{Run, runs}
use Rattle.encoding.specs.Distinct.{distinct, numbers, elements, InOrder}
use Rattle.encoding.specs.Sections.{run_less_code, pool}
use Rattle.encoding.proofs.ListLaws.{all-at, all_map, all_rest}
use Rattle.encoding.proofs.RunsLaws.{runs-ok, all_runs, ok-few}
use Rattle.encoding.proofs.DistinctLaws.{in_order, in-order-lt, elements-numbers}
use Rattle.encoding.proofs.SectionLaws.{WideRunLess, ok-wide, all-distinct, distinct-length, numbers-length, numbers-le, front}
use Rattle.sheet_seek.specs.Passes.{Passes, ItemsEnd}
use Rattle.sheet_seek.proofs.PassLaws.{items-end}

all_in : (m : ℕ) (is : List ℕ) (k : ℕ) → InOrder m k is → All (λ (i : ℕ). i < m) is
all_in m [] k o = tt
all_in m (i ∷ is) k o = (in-order-lt ℕ_discrete i is m k o, all_in m is (ite (ℕ_discrete i k) (suc k) k) o.1)

elements-get_or : {A : Type 0} (z : A) (ds : List A) (is : List ℕ) (k : ℕ) → k < length is → get_or (elements z ds is) k z ≡ get_or ds (get_or is k 0) z
elements-get_or z ds [] k h = absurd (omega arith)
elements-get_or z ds (i ∷ is) zero h = refl
elements-get_or z ds (i ∷ is) (suc k) h = elements-get_or z ds is k (omega arith)

get_or-rest : {A : Type 0} (z : A) (x : A) (ds : List A) (D : List A) → D ≡ x ∷ ds → (j : ℕ) → get_or D (suc j) z ≡ get_or ds j z
get_or-rest z x ds D e j = ap (λ (l : List _). get_or l (suc j) z) e

module _ {A : Type 0} (eq : Discrete A) (none : A) (xs : List A) where
  -- the distinct items other than none, each glyph's number, and the runs of the numbers
  abbrev pub items_of : List A
  items_of = drop 1 (distinct eq (none ∷ []) xs)

  abbrev pub numbers_of : List ℕ
  numbers_of = numbers eq (distinct eq (none ∷ []) xs) xs

  abbrev pub runs_of : List (Run ℕ)
  runs_of = runs ℕ_discrete 0 0 (numbers eq (distinct eq (none ∷ []) xs) xs)

  -- the item of a glyph is the one with its number
  by_number : (g : ℕ) → get_or xs g none ≡ get_or (distinct eq (none ∷ []) xs) (get_or numbers_of g 0) none
  by_number g = go (dec_lt g (length xs))
    where
      D : List A
      D = distinct eq (none ∷ []) xs

      go : Dec (g < length xs) → get_or xs g none ≡ get_or (distinct eq (none ∷ []) xs) (get_or numbers_of g 0) none
      go (yes h) =
          ap (λ (l : List A). get_or l g none) (sym (elements-numbers eq none xs (none ∷ [])))
          ∙ elements-get_or none (distinct eq (none ∷ []) xs) numbers_of g (omega (arith, numbers-length eq (distinct eq (none ∷ []) xs) xs))
      go (no h) =
          let l : length xs ≤ g = omega (arith, h) in
          let k : length numbers_of ≤ g = omega (arith, h, numbers-length eq (distinct eq (none ∷ []) xs) xs) in
          get_or-eq_default xs none l
          ∙ sym (ap (λ (i : ℕ). get_or (distinct eq (none ∷ []) xs) i none) (get_or-eq_default numbers_of 0 k)
          ∙ ap (λ (d : List A). get_or d 0 none) (front eq none xs))

  pub no-item : (g : ℕ) → get_or numbers_of g 0 ≡ 0 → get_or xs g none ≡ none
  no-item g e =
      by_number g ∙ ap (λ (i : ℕ). get_or (distinct eq (none ∷ []) xs) i none) e ∙ ap (λ (d : List A). get_or d 0 none) (front eq none xs)

  pub item-there : (g j : ℕ) → get_or numbers_of g 0 ≡ suc j → (j < length items_of) × (get_or xs g none ≡ get_or items_of j none)
  item-there g j e = (
    below (dec_lt g (length numbers_of)),
    by_number g ∙ ap (λ (i : ℕ). get_or (distinct eq (none ∷ []) xs) i none) e ∙ get_or-rest none none items_of (distinct eq (none ∷ []) xs) (front eq none xs) j,
  )
    where
      below : Dec (g < length numbers_of) → j < length items_of
      below (yes h) =
          let a : get_or numbers_of g 0 < length (distinct eq (none ∷ []) xs) =
          all-at (λ (i : ℕ). i < length (distinct eq (none ∷ []) xs)) numbers_of 0 g
          (all_in (length (distinct eq (none ∷ []) xs)) numbers_of 1 (in_order eq xs (none ∷ []))) h in
          omega (arith, a, e, length-drop 1 (distinct eq (none ∷ []) xs))
      below (no h) =
          let k : length numbers_of ≤ g = omega (arith, h) in
          absurd (omega (arith, e, get_or-eq_default numbers_of 0 k))

  module _ (ok : A → Type 0) (hz : ok none) (n : ℕ) (hn : n < 2 ^ 16) (l : length xs ≡ n) (a : All ok xs) where
    pub items-few : (length items_of < 2 ^ 32) × All ok items_of
    items-few = (
      omega (arith, l, distinct-length eq xs (none ∷ []), length-drop 1 (distinct eq (none ∷ []) xs)),
      all_rest ok (distinct eq (none ∷ []) xs) (all-distinct eq ok xs (none ∷ []) (hz, tt) a),
    )

    pub runs-few : (length runs_of < 2 ^ 32) × All WideRunLess runs_of
    runs-few =
        let k : length numbers_of ≡ n = numbers-length eq (distinct eq (none ∷ []) xs) xs ∙ l in
        let o = runs-ok ℕ_discrete 0 numbers_of n 0 (omega (arith, k)) in
        let b = all_map (λ (i : ℕ). i ≤ length (distinct eq (none ∷ []) xs)) (λ (i : ℕ). i ≤ 2 ^ 16)
        (λ i h. omega (arith, l, distinct-length eq xs (none ∷ []))) numbers_of (numbers-le eq (distinct eq (none ∷ []) xs) xs) in (
          omega (arith, ok-few ℕ_discrete 0 runs_of n 0 0 o),
          ok-wide 0 n (λ (i : ℕ). i ≤ 2 ^ 16) (omega arith) runs_of 0 0 o (all_runs ℕ_discrete 0 (λ (i : ℕ). i ≤ 2 ^ 16) numbers_of 0 b),
        )

-- the two sections, passed one after the other
module _ {A : Type 0} (eq : Discrete A) (code : A → List ℕ) (none : A) (ok : A → Type 0) (hz : ok none) (s : List ℕ) (bytes : Bytes s) (at p q : ℕ)
    (h : Passes (counted code) (λ ds. []) (λ ds. (length ds < 2 ^ 32) × All ok ds) s at p) where
  pub pool-runs : (n : ℕ) → n < 2 ^ 16 → (xs : List A) (rest : List ℕ) → length xs ≡ n → All ok xs → drop at s ≡ pool eq code none xs ++ rest
      → drop p s ≡ counted run_less_code (runs_of eq none xs) ++ rest
  pool-runs n hn xs rest l a e =
      h (items_of eq none xs) (counted run_less_code (runs_of eq none xs) ++ rest) (items-few eq none xs ok hz n hn l a)
      (e ∙ append_assoc (counted code (items_of eq none xs)) (counted run_less_code (runs_of eq none xs)) rest)

  pub pool-end : ItemsEnd 6 s p q → (n : ℕ) → n < 2 ^ 16 → (xs : List A) (rest : List ℕ) → length xs ≡ n → All ok xs
      → drop at s ≡ pool eq code none xs ++ rest → drop q s ≡ rest
  pool-end f n hn xs rest l a e =
      items-end run_less_code WideRunLess s bytes p 6 (λ r. refl) q f (runs_of eq none xs) rest (runs-few eq none xs ok hz n hn l a).0
      (pool-runs n hn xs rest l a e)
