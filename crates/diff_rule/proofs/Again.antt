-- What is stored again for another glyph is what that glyph has.
use Prim.Native.Nat.{ℕ, zero, suc, ◌+◌, ◌-◌, ◌*◌, ◌≤◌, ◌<◌}
use mathlib.Core.Path.{◌≡◌, refl, sym, ap, ap₂, ◌∙◌, subst}
use Rattle.std.specs.Prelude.{Option, None, Some}
use mathlib.Core.List.{List, [], ◌∷◌, ◌++◌, map, map-append, append_assoc}
use native.Mathlib.Omega.{arith}
use lib.ListN.{length, length-append, get_or, drop}
use lib.Seq.{sets, sets-eq, get_or_at, get_or-append-add}
use Rattle.types.specs.declared.Direction.{Direction}
use Rattle.types.specs.declared.Pair.{Pair}
use Rattle.meaning.specs.Meaning.{Action}
use Rattle.meaning.specs.Ask.{record_of}
use Rattle.meaning.specs.Discrete.{Pair-discrete, list-discrete}
use Rattle.diff_rule.specs.declared.Aspect.{Aspect}
use Rattle.diff_rule.specs.declared.Aspect.TheVariants.{Width, Actions}
use Rattle.diff_rule.specs.declared.Mark.{Mark}
use Rattle.diff_rule.specs.declared.Difference.{Difference}
use Rattle.diff_rule.specs.Differences.{mark_of, noted, through, record_differs, records_differ, some_list, list_differs}
use Rattle.diff_rule.specs.Order.{direction_number, aspect_number, mark_number, numbers_of, all_numbers}
use Rattle.diff_rule.specs.Again.{for_glyph, again, again_through}
use Rattle.diff_rule.proofs.Stored.{numbers-length, numbers-append}
use Rattle.diff_rule.proofs.Through.{through_same}

-- ---- the numbers

module _ (block : List ℕ) (g : ℕ) where
  -- after k of n
  pub again-next : (n k : ℕ) → k < n
      → again (n - k) block g (5 * k)
      ≡ (get_or block (5 * k) 0 ∷ get_or block (5 * k + 1) 0 ∷ get_or block (5 * k + 2) 0 ∷ g ∷ get_or block (5 * k + 4) 0 ∷ []) ++ again (n - (k + 1)) block g (5 * (k + 1))
  unfolding again
  again-next n k h =
      let here : n - k ≡ suc (n - (k + 1)) = omega arith in
      let next : 5 * (k + 1) ≡ 5 * k + 5 = omega arith in
      rw (here, next) refl

  pub again-none : (k p : ℕ) → k ≤ 0 → again k block g p ≡ []
  unfolding again
  again-none zero p h = refl
  again-none (suc k) p h = absurd (omega arith)

  pub again-length : (k p : ℕ) → length (again k block g p) ≡ 5 * k
  unfolding again
  again-length zero p = refl
  again-length (suc k) p = omega (arith, again-length k (p + 5))

-- ---- what they are

five : (x : Difference) → List ℕ
five x = direction_number x.direction ∷ aspect_number x.aspect ∷ mark_number x.mark ∷ x.subject ∷ x.class ∷ []

again-at : (g : ℕ) (xs : List Difference) (before after : List ℕ) (p : ℕ) → length before ≡ p
    → again (length xs) (before ++ (all_numbers xs ++ after)) g p ≡ all_numbers (map (for_glyph g) xs)
unfolding again all_numbers numbers_of five
again-at g [] before after p e = refl
again-at g (x ∷ xs) before after p e =
    let rest : List ℕ = all_numbers xs ++ after in
    let all : List ℕ = before ++ (five x ++ rest) in
    let read : (k : ℕ) → get_or all (p + k) 0 ≡ get_or (five x ++ rest) k 0 =
    λ k. subst (λ (q : ℕ). get_or all (q + k) 0 ≡ get_or (five x ++ rest) k 0) e (get_or-append-add before (five x ++ rest) k 0) in
    let n : length (before ++ five x) ≡ p + 5 = omega (arith, length-append before (five x)) in
    let next : again (length xs) all g (p + 5) ≡ all_numbers (map (for_glyph g) xs) =
    ap (λ (l : List ℕ). again (length xs) l g (p + 5)) (sym (append_assoc before (five x) rest)) ∙ again-at g xs (before ++ five x) after (p + 5) n in
    λ i. get_or_at before (direction_number x.direction) (aspect_number x.aspect ∷ mark_number x.mark ∷ x.subject ∷ x.class ∷ rest) 0 p e i
    ∷ read 1 i ∷ read 2 i ∷ g ∷ read 4 i ∷ next i

pub again-stored : (g : ℕ) (xs : List Difference) (l : List ℕ) → 5 * length xs ≤ length l
    → again (length xs) (sets l 0 (all_numbers xs)) g 0 ≡ all_numbers (map (for_glyph g) xs)
again-stored g xs l h =
    ap (λ (b : List ℕ). again (length xs) b g 0) (sets-eq (all_numbers xs) l 0 (omega (arith, numbers-length xs)))
    ∙ again-at g xs [] (drop (0 + length (all_numbers xs)) l) 0 refl

-- ---- n glyphs, each of which has what the block has

pub through-again : (f : ℕ → List Difference) (k : ℕ) (block : List ℕ) → ((g : ℕ) → again k block g 0 ≡ all_numbers (f g)) → (n g : ℕ)
    → again_through k block n g ≡ all_numbers (through f n g)
unfolding again_through through all_numbers
through-again f k block h zero g = refl
through-again f k block h (suc n) g =
    ap₂ (λ (x y : List ℕ). x ++ y) (h g) (through-again f k block h n (suc g)) ∙ sym (numbers-append (f g) (through f n (suc g)))

module _ (k : ℕ) (block : List ℕ) where
  -- from g on and before e
  pub glyphs-next : (e g : ℕ) → g < e → again_through k block (e - g) g ≡ again k block g 0 ++ again_through k block (e - (g + 1)) (g + 1)
  unfolding again_through
  glyphs-next e g h =
      let here : e - g ≡ suc (e - (g + 1)) = omega arith in
      let next : suc g ≡ g + 1 = omega arith in
      rw here (ap (λ (i : ℕ). again k block g 0 ++ again_through k block (e - (g + 1)) i) next)

  pub glyphs-none : (n g : ℕ) → n ≤ 0 → again_through k block n g ≡ []
  unfolding again_through
  glyphs-none zero g h = refl
  glyphs-none (suc n) g h = absurd (omega arith)

  pub glyphs-length : (n g : ℕ) → length (again_through k block n g) ≡ n * (5 * k)
  unfolding again_through
  glyphs-length zero g = omega arith
  glyphs-length (suc n) g =
      let step : suc n * (5 * k) ≡ 5 * k + n * (5 * k) = omega arith in
      length-append (again k block g 0) (again_through k block n (suc g)) ∙ ap₂ ◌+◌ (again-length block g k 0) (glyphs-length n (suc g)) ∙ sym step

  -- none for each
  pub glyphs-bare : k ≡ 0 → (n g : ℕ) → again_through k block n g ≡ []
  unfolding again_through
  glyphs-bare e zero g = refl
  glyphs-bare e (suc n) g = ap₂ (λ (x y : List ℕ). x ++ y) (again-none block g k 0 (omega arith)) (glyphs-bare e n (suc g))

-- ---- records and lists of a glyph are those of another, and few

noted-for : (d : Direction) (a : Aspect) (x y g : ℕ) (o : Option Mark) → map (for_glyph g) (noted d a x y o) ≡ noted d a g y o
noted-for d a x y g None = refl
noted-for d a x y g (Some m) = refl

noted-few : (d : Direction) (a : Aspect) (x y : ℕ) (o : Option Mark) → length (noted d a x y o) ≤ 1
noted-few d a x y None = omega arith
noted-few d a x y (Some m) = omega arith

pub through-map : (h : Difference → Difference) (f : ℕ → List Difference) (n i : ℕ) → map h (through f n i) ≡ through (λ k. map h (f k)) n i
unfolding through
through-map h f zero i = refl
through-map h f (suc n) i = map-append h (f i) (through f n (suc i)) ∙ ap (λ (l : List Difference). map h (f i) ++ l) (through-map h f n (suc i))

through-few : (f : ℕ → List Difference) → ((k : ℕ) → length (f k) ≤ 1) → (n i : ℕ) → length (through f n i) ≤ n
unfolding through
through-few f h zero i = omega arith
through-few f h (suc n) i = omega (arith, h i, through-few f h n (suc i), length-append (f i) (through f n (suc i)))

module _ (d : Direction) (g : ℕ) (ps qs : List Pair) where
  pub records-for : (x : ℕ) → map (for_glyph g) (records_differ d x ps qs) ≡ records_differ d g ps qs
  unfolding records_differ
  records-for x =
      through-map (for_glyph g) (record_differs d x ps qs) 128 0
      ∙ through_same (λ c. map (for_glyph g) (record_differs d x ps qs c)) (record_differs d g ps qs) 128 0
      (λ c a b. noted-for d Width x c g (mark_of Pair-discrete (record_of c ps) (record_of c qs)))

  pub records-few : length (records_differ d g ps qs) ≤ 128
  unfolding records_differ
  records-few = through-few (record_differs d g ps qs) (λ c. noted-few d Width g c (mark_of Pair-discrete (record_of c ps) (record_of c qs))) 128 0

module _ (d : Direction) (g : ℕ) (xs ys : List Action) where
  pub list-for : (x : ℕ) → map (for_glyph g) (list_differs d x xs ys) ≡ list_differs d g xs ys
  list-for x = noted-for d Actions x 0 g (mark_of list-discrete (some_list xs) (some_list ys))

  pub list-few : length (list_differs d g xs ys) ≤ 1
  list-few = noted-few d Actions g 0 (mark_of list-discrete (some_list xs) (some_list ys))
