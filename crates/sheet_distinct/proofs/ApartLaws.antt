-- Numbers sorted by what they stand for: no two stand for the same exactly when each comes later than the one before.
use Rattle.std.proofs.Common.{◌≡◌, ℕ, ◌+◌, Bool, true, false, List, [], ◌∷◌, get_or, refl, sym, ap, ◌∙◌, arith}
use Rattle.std.specs.Cmp.{IsStrictWeakOrder, nat_cmp_total}
use Rattle.std.specs.Cmp.Lexicographic.{slice_cmp, lists_total}
use Rattle.std.specs.Ordering.{nat_cmp, is_lt, is_eq, ordering_reverse}
use Rattle.std.specs.declared.cmp.Ordering.{Ordering}
use Rattle.std.specs.declared.cmp.Ordering.TheVariants.{Less, Equal, Greater}
use Rattle.std.specs.List.{AllByRecursion, IsAllAdjacentAnswer, IsDistinct}
use Rattle.std.specs.List.Sorted.{IsPermutation, IsSortedBy}
use Rattle.std.specs.Str.{bytes_eq}
use Rattle.std.proofs.lemmas.Bool.{false≢true}
use Rattle.std.proofs.lemmas.Cmp.{nat_list_eq_equiv}
use Rattle.std.proofs.lemmas.List.Sorted.{ranks_by, sorted_far, IsPermutation-sym}
use Rattle.std.proofs.lemmas.Map.Keys.{IsDistinct-IsPermutation}
use Rattle.std.proofs.lemmas.Map.Text.{is_eq-slice_cmp}
use Rattle.std.proofs.lemmas.Slice.Eq.{bytes_eq-Decides}
use Rattle.encoding.specs.Codes.{All}
use Rattle.encoding.specs.Tests.{Says}
use Rattle.sheet_distinct.specs.Order.{Apart}
use Rattle.sheet_distinct.proofs.ScanLaws.{apart-at, apart_from}

tie : (r s : Ordering) → r ≡ ordering_reverse s → is_lt r ≡ false → is_lt s ≡ false → is_eq r ≡ true
tie Less s e p q = absurd (false≢true (sym p))
tie Equal s e p q = refl
tie Greater Less e p q = absurd (false≢true (sym q))
tie Greater Equal e p q = cc
tie Greater Greater e p q = cc

module _ (f : ℕ → List ℕ) where
  abbrev pub before : ℕ → ℕ → Bool
  before x y = is_lt (slice_cmp nat_cmp (f x) (f y))

  pub order : IsStrictWeakOrder before
  order = ranks_by (lists_total nat_cmp_total) f

  tied : (x y : ℕ) → before x y ≡ false → before y x ≡ false → f x ≡ f y
  tied x y p q =
      (bytes_eq-Decides (f x) (f y)).0
      (sym (is_eq-slice_cmp (f x) (f y))
      ∙ tie (slice_cmp nat_cmp (f x) (f y)) (slice_cmp nat_cmp (f y) (f x)) ((lists_total nat_cmp_total).antisymm (f x) (f y)) p q)

  pub says-rising : (xs : List ℕ) (r : Bool) → IsSortedBy before xs → IsAllAdjacentAnswer (λ x y b. b ≡ before x y) xs r → Says r (Apart f xs)
  says-rising xs true up rise =
      apart_from f 0 xs
      (λ j k h l e.
      let y = get_or xs (j + 1) 0 in
      false≢true (sym (sorted_far before order xs up (j + 1) k 0 (omega arith) l)
      ∙ sym (ap (λ (t : List ℕ). is_lt (slice_cmp nat_cmp t (f y))) e) ∙ sym (rise j 0 (omega arith))))
  says-rising xs false up fall =
      λ a. apart-at f 0 xs a fall.0 (fall.0 + 1) (omega arith) fall.1 (tied _ _ (sym (fall.2 0)) (up fall.0 0 (omega arith) fall.1))

  -- ---- the answer on a list is the answer on its elements in another order

  abbrev same : ℕ → ℕ → Bool
  same x y = bytes_eq (f x) (f y)

  differ : (x : ℕ) (ys : List ℕ) → All (λ (y : ℕ). f x ≡ f y → ⊥) ys → AllByRecursion (λ (y : ℕ). same x y ≡ false) ys
  differ x [] h = tt
  differ x (y ∷ ys) h = (no (same x y) (λ e. h.0 ((bytes_eq-Decides (f x) (f y)).0 e)), differ x ys h.1)
    where
      no : (b : Bool) → (b ≡ true → ⊥) → b ≡ false
      no true n = absurd (n refl)
      no false n = refl

  differ⁻ : (x : ℕ) (ys : List ℕ) → AllByRecursion (λ (y : ℕ). same x y ≡ false) ys → All (λ (y : ℕ). f x ≡ f y → ⊥) ys
  differ⁻ x [] h = tt
  differ⁻ x (y ∷ ys) h = ((λ e. false≢true (sym h.0 ∙ (bytes_eq-Decides (f x) (f y)).1 e)), differ⁻ x ys h.1)

  to : (xs : List ℕ) → Apart f xs → IsDistinct same xs
  unfolding IsDistinct
  to [] h = tt
  to (x ∷ xs) h = (differ x xs h.0, to xs h.1)

  back : (xs : List ℕ) → IsDistinct same xs → Apart f xs
  unfolding IsDistinct
  back [] h = tt
  back (x ∷ xs) h = (differ⁻ x xs h.0, back xs h.1)

  moved : (xs ys : List ℕ) → IsPermutation xs ys → Apart f xs → Apart f ys
  moved xs ys p a = back ys (IsDistinct-IsPermutation same (λ x y. nat_list_eq_equiv.symm (f x) (f y)) xs ys p (to xs a))

  pub says-moved : (xs ys : List ℕ) (r : Bool) → IsPermutation xs ys → Says r (Apart f ys) → Says r (Apart f xs)
  says-moved xs ys true p h = moved ys xs (IsPermutation-sym xs ys p) h
  says-moved xs ys false p h = λ a. h (moved xs ys p a)

-- what the test of two lists that were read says
module _ (u v a b : List ℕ) (eu : u ≡ a) (ev : v ≡ b) where
  pub read-alike : true ≡ bytes_eq u v → a ≡ b
  read-alike h = sym eu ∙ (bytes_eq-Decides u v).0 (sym h) ∙ ev

  pub read-unlike : false ≡ bytes_eq u v → a ≡ b → ⊥
  read-unlike h e = false≢true (h ∙ (bytes_eq-Decides u v).1 (eu ∙ e ∙ sym ev))
