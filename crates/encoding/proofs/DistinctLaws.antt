-- `distinct` and `numbers` are undone by `elements`; what they give for some list is exactly what is `Once` and `InOrder`.
use Prim.Native.Nat.{ℕ, zero, suc, ◌+◌, ◌≤◌, ◌<◌, min}
use mathlib.Core.Path.{◌≡◌, refl, sym, ap, ap₂, ◌∙◌, subst}
use mathlib.Core.Logic.{ite, if_pos, if_neg}
use mathlib.Core.List.{List, [], ◌∷◌, ◌++◌, append-nil, append_assoc}
use native.Mathlib.Decide.{ℕ_discrete, dec_lt}
use native.Mathlib.Omega.{arith}
use lib.ListN.{length, get_or, take, length-append, get_or-append}
use lib.Seq.{get_or-append_seam, take-length, length-take-le, take-suc}
use Rattle.encoding.specs.Distinct.{index, distinct, numbers, elements, InOrder, Once}

pub elements-length : {A : Type 0} (z : A) (ds : List A) (is : List ℕ) → length (elements z ds is) ≡ length is
elements-length z ds [] = refl
elements-length z ds (i ∷ is) = ap suc (elements-length z ds is)

module _ {A : Type 0} (eq : Discrete A) where
  pub index-le : (x : A) (ds : List A) → index eq x ds ≤ length ds
  index-le x [] = omega arith
  index-le x (d ∷ ds) = go (eq d x) (index-le x ds)
    where
      go : (e : Dec (d ≡ x)) → index eq x ds ≤ length ds → ite e 0 (suc (index eq x ds)) ≤ suc (length ds)
      go (yes p) h = omega arith
      go (no p) h = omega arith

  -- what an index below the length finds
  pub get_or-index : (x z : A) (ds : List A) → index eq x ds < length ds → get_or ds (index eq x ds) z ≡ x
  get_or-index x z [] h = absurd (omega arith)
  get_or-index x z (d ∷ ds) h = go (eq d x) h (get_or-index x z ds)
    where
      go : (e : Dec (d ≡ x)) → ite e 0 (suc (index eq x ds)) < suc (length ds) → (index eq x ds < length ds → get_or ds (index eq x ds) z ≡ x)
          → get_or (d ∷ ds) (ite e 0 (suc (index eq x ds))) z ≡ x
      go (yes p) h f = p
      go (no p) h f = f (omega arith)

  -- an index in a list that is made longer
  pub index-append : (x : A) (ds es : List A) → index eq x ds < length ds → index eq x (ds ++ es) ≡ index eq x ds
  index-append x [] es h = absurd (omega arith)
  index-append x (d ∷ ds) es h = go (eq d x) h (index-append x ds es)
    where
      go : (e : Dec (d ≡ x)) → ite e 0 (suc (index eq x ds)) < suc (length ds) → (index eq x ds < length ds → index eq x (ds ++ es) ≡ index eq x ds)
          → ite e 0 (suc (index eq x (ds ++ es))) ≡ ite e 0 (suc (index eq x ds))
      go (yes p) h f = refl
      go (no p) h f = ap suc (f (omega arith))

  pub index-past : (x : A) (ds es : List A) → index eq x ds ≡ length ds → index eq x (ds ++ es) ≡ length ds + index eq x es
  index-past x [] es h = omega arith
  index-past x (d ∷ ds) es h = go (eq d x) h (index-past x ds es)
    where
      go : (e : Dec (d ≡ x)) → ite e 0 (suc (index eq x ds)) ≡ suc (length ds) → (index eq x ds ≡ length ds → index eq x (ds ++ es) ≡ length ds + index eq x es)
          → ite e 0 (suc (index eq x (ds ++ es))) ≡ suc (length ds) + index eq x es
      go (yes p) h f = absurd (omega arith)
      go (no p) h f = let g : index eq x (ds ++ es) ≡ length ds + index eq x es = f (omega arith) in omega arith

  pub index-self : (x : A) (es : List A) → index eq x (x ∷ es) ≡ 0
  index-self x es = if_pos (eq x x) refl _ _

  pub index-new : (x : A) (ds es : List A) → index eq x ds ≡ length ds → index eq x (ds ++ x ∷ es) ≡ length ds
  index-new x ds es h = index-past x ds (x ∷ es) h ∙ ap (λ (k : ℕ). length ds + k) (index-self x es) ∙ omega arith

  -- ---- what is seen stays at the front

  pub distinct-extends : (xs seen : List A) → (es : List A) × (distinct eq seen xs ≡ seen ++ es)
  distinct-extends [] seen = ([], sym (append-nil seen))
  distinct-extends (x ∷ xs) seen = go (ℕ_discrete (index eq x seen) (length seen)) (distinct-extends xs (seen ++ (x ∷ []))) (distinct-extends xs seen)
    where
      go : (d : Dec (index eq x seen ≡ length seen)) → (es : List A) × (distinct eq (seen ++ (x ∷ [])) xs ≡ (seen ++ (x ∷ [])) ++ es)
          → (es : List A) × (distinct eq seen xs ≡ seen ++ es)
          → (es : List A) × (ite d (distinct eq (seen ++ (x ∷ [])) xs) (distinct eq seen xs) ≡ seen ++ es)
      go (yes p) f g = (x ∷ f.0, f.1 ∙ append_assoc seen (x ∷ []) f.0)
      go (no p) f g = g

  -- the number of x once x is seen, and when it comes as a new one
  pub index_kept : (x : A) (seen xs : List A) → index eq x seen < length seen → index eq x (distinct eq seen xs) ≡ index eq x seen
  index_kept x seen xs h =
      let e = distinct-extends xs seen in
      ap (index eq x) e.1 ∙ index-append x seen e.0 h

  pub index-added : (x : A) (seen xs : List A) → index eq x seen ≡ length seen
      → index eq x (distinct eq (seen ++ (x ∷ [])) xs) ≡ length seen
  index-added x seen xs h =
      let n : index eq x (seen ++ (x ∷ [])) ≡ length seen = index-new x seen [] h in
      let l : length (seen ++ (x ∷ [])) ≡ length seen + 1 = length-append seen (x ∷ []) in
      index_kept x (seen ++ (x ∷ [])) xs (omega arith) ∙ n

  -- numbers are used in order of first use
  pub in_order : (xs seen : List A) → InOrder (length (distinct eq seen xs)) (length seen) (numbers eq (distinct eq seen xs) xs)
  in_order [] seen = refl
  in_order (x ∷ xs) seen = go (ℕ_discrete (index eq x seen) (length seen)) (in_order xs (seen ++ (x ∷ []))) (in_order xs seen)
    where
      go : (d : Dec (index eq x seen ≡ length seen))
          → InOrder (length (distinct eq (seen ++ (x ∷ [])) xs)) (length (seen ++ (x ∷ []))) (numbers eq (distinct eq (seen ++ (x ∷ [])) xs) xs)
          → InOrder (length (distinct eq seen xs)) (length seen) (numbers eq (distinct eq seen xs) xs)
          → InOrder (length (ite d (distinct eq (seen ++ (x ∷ [])) xs) (distinct eq seen xs))) (length seen)
          (numbers eq (ite d (distinct eq (seen ++ (x ∷ [])) xs) (distinct eq seen xs)) (x ∷ xs))
      go (yes p) f g =
          let a : index eq x (distinct eq (seen ++ (x ∷ [])) xs) ≡ length seen = index-added x seen xs p in
          let l : length (seen ++ (x ∷ [])) ≡ suc (length seen) = length-append seen (x ∷ []) ∙ omega arith in (
            omega arith,
            subst (λ (k : ℕ). InOrder (length (distinct eq (seen ++ (x ∷ [])) xs)) k (numbers eq (distinct eq (seen ++ (x ∷ [])) xs) xs))
                (l ∙ sym (if_pos (ℕ_discrete (index eq x (distinct eq (seen ++ (x ∷ [])) xs)) (length seen)) a _ _)) f,
          )
      go (no p) f g =
          let b : index eq x seen < length seen = omega (arith, index-le x seen, p) in
          let a : index eq x (distinct eq seen xs) ≡ index eq x seen = index_kept x seen xs b in (
            omega arith,
            subst (λ (k : ℕ). InOrder (length (distinct eq seen xs)) k (numbers eq (distinct eq seen xs) xs))
                (sym (if_neg (ℕ_discrete (index eq x (distinct eq seen xs)) (length seen)) (λ e. omega arith) _ _)) g,
          )

  -- looking the numbers up gives the list back
  pub elements-numbers : (z : A) (xs seen : List A) → elements z (distinct eq seen xs) (numbers eq (distinct eq seen xs) xs) ≡ xs
  elements-numbers z [] seen = refl
  elements-numbers z (x ∷ xs) seen =
      go (ℕ_discrete (index eq x seen) (length seen)) (elements-numbers z xs (seen ++ (x ∷ []))) (elements-numbers z xs seen)
    where
      go : (d : Dec (index eq x seen ≡ length seen))
          → elements z (distinct eq (seen ++ (x ∷ [])) xs) (numbers eq (distinct eq (seen ++ (x ∷ [])) xs) xs) ≡ xs
          → elements z (distinct eq seen xs) (numbers eq (distinct eq seen xs) xs) ≡ xs
          → elements z (ite d (distinct eq (seen ++ (x ∷ [])) xs) (distinct eq seen xs))
          (numbers eq (ite d (distinct eq (seen ++ (x ∷ [])) xs) (distinct eq seen xs)) (x ∷ xs)) ≡ x ∷ xs
      go (yes p) f g =
          let e = distinct-extends xs (seen ++ (x ∷ [])) in
          let l : length (distinct eq (seen ++ (x ∷ [])) xs) ≡ length (seen ++ (x ∷ [])) + length e.0 = ap length e.1 ∙ length-append (seen ++ (x ∷ [])) e.0 in
          let m : length (seen ++ (x ∷ [])) ≡ length seen + 1 = length-append seen (x ∷ []) in
          ap₂ (λ (a : A) (b : List A). a ∷ b)
          (get_or-index x z (distinct eq (seen ++ (x ∷ [])) xs) (omega (arith, index-added x seen xs p))) f
      go (no p) f g =
          let e = distinct-extends xs seen in
          let b : index eq x seen < length seen = omega (arith, index-le x seen, p) in
          let l : length (distinct eq seen xs) ≡ length seen + length e.0 = ap length e.1 ∙ length-append seen e.0 in
          ap₂ (λ (a : A) (b : List A). a ∷ b)
          (get_or-index x z (distinct eq seen xs) (omega (arith, index_kept x seen xs b))) g

  -- no element is there twice
  pub once_more : (x : A) (ds : List A) → index eq x ds ≡ length ds → Once eq ds → Once eq (ds ++ (x ∷ []))
  once_more x ds h o k z b = go (dec_lt k (length ds))
    where
      l : length (ds ++ (x ∷ [])) ≡ length ds + 1
      l = length-append ds (x ∷ [])

      go : Dec (k < length ds) → index eq (get_or (ds ++ (x ∷ [])) k z) (ds ++ (x ∷ [])) ≡ k
      go (yes p) =
          let e : get_or (ds ++ (x ∷ [])) k z ≡ get_or ds k z = get_or-append ds (x ∷ []) z k p in
          ap (λ (y : A). index eq y (ds ++ (x ∷ []))) e ∙ index-append (get_or ds k z) ds (x ∷ []) (omega (arith, o k z p)) ∙ o k z p
      go (no p) =
          let e : k ≡ length ds = omega (arith, l, b) in
          ap (λ (j : ℕ). index eq (get_or (ds ++ (x ∷ [])) j z) (ds ++ (x ∷ []))) e
          ∙ ap (λ (y : A). index eq y (ds ++ (x ∷ []))) (get_or-append_seam ds x [] z) ∙ index-new x ds [] h ∙ sym e

  pub once-distinct : (xs seen : List A) → Once eq seen → Once eq (distinct eq seen xs)
  once-distinct [] seen o = o
  once-distinct (x ∷ xs) seen o = go (ℕ_discrete (index eq x seen) (length seen)) (once-distinct xs (seen ++ (x ∷ []))) (once-distinct xs seen o)
    where
      go : (d : Dec (index eq x seen ≡ length seen)) → (Once eq (seen ++ (x ∷ [])) → Once eq (distinct eq (seen ++ (x ∷ [])) xs))
          → Once eq (distinct eq seen xs) → Once eq (ite d (distinct eq (seen ++ (x ∷ [])) xs) (distinct eq seen xs))
      go (yes p) f g = f (once_more x seen p o)
      go (no p) f g = g

  -- ---- the other way

  pub in-order-le : (is : List ℕ) (m k : ℕ) → InOrder m k is → k ≤ m
  in-order-le [] m k h = omega arith
  in-order-le (i ∷ is) m k h = go (ℕ_discrete i k) (in-order-le is m (ite (ℕ_discrete i k) (suc k) k) h.1)
    where
      go : (d : Dec (i ≡ k)) → ite d (suc k) k ≤ m → k ≤ m
      go (yes p) f = omega arith
      go (no p) f = f

  pub in-order-lt : (i : ℕ) (is : List ℕ) (m k : ℕ) → InOrder m k (i ∷ is) → i < m
  in-order-lt i is m k h = go (ℕ_discrete i k) (in-order-le is m (ite (ℕ_discrete i k) (suc k) k) h.1)
    where
      go : (d : Dec (i ≡ k)) → ite d (suc k) k ≤ m → i < m
      go (yes p) f = omega arith
      go (no p) f = omega (arith, h.0, p)

  pub numbers-elements : (z : A) (ds : List A) (is : List ℕ) (k : ℕ) → Once eq ds → InOrder (length ds) k is
      → numbers eq ds (elements z ds is) ≡ is
  numbers-elements z ds [] k o h = refl
  numbers-elements z ds (i ∷ is) k o h =
      ap₂ (λ (a : ℕ) (b : List ℕ). a ∷ b) (o i z (in-order-lt i is (length ds) k h)) (numbers-elements z ds is (ite (ℕ_discrete i k) (suc k) k) o h.1)

  pub index-take : (x : A) (ds : List A) (k : ℕ) → k ≤ length ds → index eq x (take k ds) ≡ min k (index eq x ds)
  index-take x ds zero h = omega arith
  index-take x [] (suc k) h = absurd (omega arith)
  index-take x (d ∷ ds) (suc k) h = go (eq d x) (index-take x ds k (omega arith))
    where
      go : (e : Dec (d ≡ x)) → index eq x (take k ds) ≡ min k (index eq x ds)
          → ite e 0 (suc (index eq x (take k ds))) ≡ min (suc k) (ite e 0 (suc (index eq x ds)))
      go (yes p) f = omega arith
      go (no p) f = omega arith

  pub distinct-elements : (z : A) (ds : List A) (is : List ℕ) (k : ℕ) → Once eq ds → InOrder (length ds) k is
      → distinct eq (take k ds) (elements z ds is) ≡ ds
  distinct-elements z ds [] k o h = ap (λ (n : ℕ). take n ds) h ∙ take-length ds
  distinct-elements z ds (i ∷ is) k o h =
      go (ℕ_discrete i k) (distinct-elements z ds is (ite (ℕ_discrete i k) (suc k) k) o h.1)
    where
      lt : i < length ds
      lt = in-order-lt i is (length ds) k h

      le : k ≤ length ds
      le = in-order-le (i ∷ is) (length ds) k h

      len : length (take k ds) ≡ k
      len = length-take-le k ds le

      x : A
      x = get_or ds i z

      at : index eq x (take k ds) ≡ min k i
      at = index-take x ds k le ∙ ap (min k) (o i z lt)

      go : (d : Dec (i ≡ k)) → distinct eq (take (ite d (suc k) k) ds) (elements z ds is) ≡ ds
          → distinct eq (take k ds) (elements z ds (i ∷ is)) ≡ ds
      go (yes p) f =
          if_pos (ℕ_discrete (index eq x (take k ds)) (length (take k ds))) (omega (arith, at, len)) _ _
          ∙ ap (λ (l : List A). distinct eq l (elements z ds is))
          (ap (λ (j : ℕ). take k ds ++ (get_or ds j z ∷ [])) p ∙ sym (take-suc ds k z (omega (arith, lt))))
          ∙ f
      go (no p) f =
          if_neg (ℕ_discrete (index eq x (take k ds)) (length (take k ds))) (λ e. omega (arith, at, len, h.0, p, e)) _ _ ∙ f

  -- ---- the canonical characterisation: with nothing seen, (ds, is) are the distinct elements and the numbers of some list
  -- exactly when no element of ds is there twice and the numbers use all of ds in order of first use
  pub canonical→ : (xs : List A) → Once eq (distinct eq [] xs) × InOrder (length (distinct eq [] xs)) 0 (numbers eq (distinct eq [] xs) xs)
  canonical→ xs = (once-distinct xs [] (λ k z h. absurd (omega arith)), in_order xs [])

  pub canonical← : (z : A) (ds : List A) (is : List ℕ) → Once eq ds → InOrder (length ds) 0 is
      → (xs : List A) × (distinct eq [] xs ≡ ds) × (numbers eq (distinct eq [] xs) xs ≡ is)
  canonical← z ds is o h =
      let d : distinct eq [] (elements z ds is) ≡ ds = distinct-elements z ds is 0 o h in
      (elements z ds is, d, ap (λ (l : List A). numbers eq l (elements z ds is)) d ∙ numbers-elements z ds is 0 o h)
