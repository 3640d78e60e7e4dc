-- Numbering by positions: `f` gives what stands at a position, `z` is none. S is the list of what is seen, D the list of all distinct ones in the end.
use Prim.Native.Nat.{ℕ, zero, suc, ◌+◌, ◌≤◌, ◌<◌}
use mathlib.Core.Path.{◌≡◌, refl, sym, ap, ◌∙◌}
use mathlib.Core.Logic.{if_pos, if_neg}
use mathlib.Core.List.{List, [], ◌∷◌, ◌++◌, map, map-append}
use native.Mathlib.Decide.{ℕ_discrete, dec_lt}
use native.Mathlib.Omega.{arith}
use native.Mathlib.Numerals.{add-one}
use lib.ListN.{length, get_or, take, drop, set, replicate, length-append, length-set, drop_of_length-le, get_or-eq_default}
use lib.Seq.{drop-cons, take-suc-set, get_or-set_same, get_or-set_other, length-take-le}
use Rattle.write_numbers.specs.Numbered.{KnownNumbers}
use Rattle.encoding.specs.Distinct.{index, distinct, numbers}
use Rattle.encoding.proofs.DistinctLaws.{index-append, index-new, index_kept, index-added}

pub map-length : {A : Type 0} (f : ℕ → A) (l : List ℕ) → length (map f l) ≡ length l
map-length f [] = refl
map-length f (x ∷ l) = ap suc (map-length f l)

pub map-drop : {A : Type 0} (f : ℕ → A) (ps : List ℕ) (i : ℕ) → i < length ps → map f (drop i ps) ≡ f (get_or ps i 0) ∷ map f (drop (i + 1) ps)
map-drop f ps i h = ap (map f) (drop-cons ps i 0 h) ∙ (rw add-one)

-- one more position
pub map_more : {A : Type 0} (f : ℕ → A) (fs : List ℕ) (k p : ℕ) → k < length fs
    → map f (take (k + 1) (set fs k p)) ≡ map f (take k fs) ++ (f p ∷ [])
map_more f fs k p h =
    let e : take (k + 1) (set fs k p) ≡ take k fs ++ (p ∷ []) = rw add-one (take-suc-set fs k p h) in
    ap (map f) e ∙ map-append f (take k fs) (p ∷ [])

module _ {A : Type 0} (eq : Discrete A) (f : ℕ → A) where
  -- ---- one turn

  -- one more of what was seen, or one that is new: what is added to the distinct ones, and its number among them
  pub next-old : (x : A) (xs : List A) (n : ℕ) (S D : List A) → n ≡ index eq x S → n < length S → distinct eq S (x ∷ xs) ≡ D
      → (distinct eq S xs ≡ D) × (index eq x D ≡ n)
  next-old x xs n S D en hn e =
      let g : distinct eq S xs ≡ D =
      sym (if_neg (ℕ_discrete (index eq x S) (length S)) (λ q. omega arith) (distinct eq (S ++ (x ∷ [])) xs) (distinct eq S xs)) ∙ e in
      (g, ap (index eq x) (sym g) ∙ index_kept eq x S xs (omega arith) ∙ sym en)

  pub next-new : (x : A) (xs : List A) (n : ℕ) (S D : List A) → n ≡ index eq x S → n ≡ length S → distinct eq S (x ∷ xs) ≡ D
      → (distinct eq (S ++ (x ∷ [])) xs ≡ D) × (index eq x D ≡ n)
  next-new x xs n S D en hn e =
      let q : index eq x S ≡ length S = omega arith in
      let g : distinct eq (S ++ (x ∷ [])) xs ≡ D =
      sym (if_pos (ℕ_discrete (index eq x S) (length S)) q (distinct eq (S ++ (x ∷ [])) xs) (distinct eq S xs)) ∙ e in
      (g, ap (index eq x) (sym g) ∙ index-added eq x S xs q ∙ sym hn)

  pub step-old : (ps : List ℕ) (i n : ℕ) (S D : List A) → i < length ps → n ≡ index eq (f (get_or ps i 0)) S → n < length S
      → distinct eq S (map f (drop i ps)) ≡ D → (distinct eq S (map f (drop (i + 1) ps)) ≡ D) × (index eq (f (get_or ps i 0)) D ≡ n)
  step-old ps i n S D h en hn e =
      next-old (f (get_or ps i 0)) (map f (drop (i + 1) ps)) n S D en hn (ap (distinct eq S) (sym (map-drop f ps i h)) ∙ e)

  pub step-new : (ps : List ℕ) (i n : ℕ) (S D : List A) → i < length ps → n ≡ index eq (f (get_or ps i 0)) S → n ≡ length S
      → distinct eq S (map f (drop i ps)) ≡ D
      → (distinct eq (S ++ (f (get_or ps i 0) ∷ [])) (map f (drop (i + 1) ps)) ≡ D) × (index eq (f (get_or ps i 0)) D ≡ n)
  step-new ps i n S D h en hn e =
      next-new (f (get_or ps i 0)) (map f (drop (i + 1) ps)) n S D en hn (ap (distinct eq S) (sym (map-drop f ps i h)) ∙ e)

  pub last-adds : (ps : List ℕ) (i : ℕ) (S D : List A) → length ps ≤ i → distinct eq S (map f (drop i ps)) ≡ D → D ≡ S
  last-adds ps i S D h e = sym e ∙ ap (λ (l : List ℕ). distinct eq S (map f l)) (drop_of_length-le ps h)

  -- ---- the numbers kept by position

  -- what is read where a number was stored
  stored : (seen : List ℕ) (p q n : ℕ) → q ≡ p → (get_or (set seen p n) q 0 ≡ 0 → ⊥) → get_or (set seen p n) q 0 ≡ n
  stored seen p q n e u = go (dec_lt p (length seen))
    where
      go : Dec (p < length seen) → get_or (set seen p n) q 0 ≡ n
      go (yes h) = ap (λ (j : ℕ). get_or (set seen p n) j 0) e ∙ get_or-set_same seen p n 0 h
      go (no h) = absurd (u (get_or-eq_default (set seen p n) 0 (omega (arith, h, length-set seen p n))))

  pub known-old : (seen : List ℕ) (S : List A) (p n : ℕ) → n ≡ index eq (f p) S → n < length S → KnownNumbers eq f seen S → KnownNumbers eq f (set seen p n) S
  known-old seen S p n en hn k q = go (ℕ_discrete q p)
    where
      go : Dec (q ≡ p) → (get_or (set seen p n) q 0 ≡ 0 → ⊥) → (index eq (f q) S ≡ get_or (set seen p n) q 0) × (get_or (set seen p n) q 0 < length S)
      go (yes e) u =
          let g : get_or (set seen p n) q 0 ≡ n = stored seen p q n e u in
          (ap (λ (j : ℕ). index eq (f j) S) e ∙ sym en ∙ sym g, omega arith)
      go (no e) u =
          let g : get_or (set seen p n) q 0 ≡ get_or seen q 0 = get_or-set_other seen p q n 0 e in
          let w = k q (λ v. u (g ∙ v)) in
          (w.0 ∙ sym g, omega (arith, w.1))

  pub known-new : (seen : List ℕ) (S : List A) (p n : ℕ) → n ≡ index eq (f p) S → n ≡ length S → KnownNumbers eq f seen S
      → KnownNumbers eq f (set seen p n) (S ++ (f p ∷ []))
  known-new seen S p n en hn k q = go (ℕ_discrete q p)
    where
      T : List A
      T = S ++ (f p ∷ [])

      len : length T ≡ length S + 1
      len = length-append S (f p ∷ [])

      go : Dec (q ≡ p) → (get_or (set seen p n) q 0 ≡ 0 → ⊥) → (index eq (f q) T ≡ get_or (set seen p n) q 0) × (get_or (set seen p n) q 0 < length T)
      go (yes e) u =
          let g : get_or (set seen p n) q 0 ≡ n = stored seen p q n e u in
          (ap (λ (j : ℕ). index eq (f j) T) e ∙ index-new eq (f p) S [] (sym en ∙ hn) ∙ sym hn ∙ sym g, omega (arith, len))
      go (no e) u =
          let g : get_or (set seen p n) q 0 ≡ get_or seen q 0 = get_or-set_other seen p q n 0 e in
          let w = k q (λ v. u (g ∙ v)) in
          (index-append eq (f q) S (f p ∷ []) (omega (arith, w.0, w.1)) ∙ w.0 ∙ sym g, omega (arith, w.1, len))

-- ---- a blank list

pub get_or-zeros : (n q : ℕ) → get_or (replicate {A = ℕ} n 0) q 0 ≡ 0
get_or-zeros zero q = refl
get_or-zeros (suc n) zero = refl
get_or-zeros (suc n) (suc q) = get_or-zeros n q

-- ---- the items that are listed

pub seen-length : {A : Type 0} (f : ℕ → A) (z : A) (fs : List ℕ) (k : ℕ) → k ≤ length fs → length (z ∷ map f (take k fs)) ≡ k + 1
seen-length f z fs k h = omega (arith, map-length f (take k fs), length-take-le k fs h)

-- ---- many of one kind

module _ {A : Type 0} (eq : Discrete A) where
  pub distinct-again : (c : ℕ) (x : A) (S ys : List A) → index eq x S < length S → distinct eq S (replicate c x ++ ys) ≡ distinct eq S ys
  distinct-again zero x S ys h = refl
  distinct-again (suc c) x S ys h = if_neg (ℕ_discrete (index eq x S) (length S)) (λ e. omega arith) _ _ ∙ distinct-again c x S ys h

  pub numbers-same : (c : ℕ) (x : A) (ds ys : List A) → numbers eq ds (replicate c x ++ ys) ≡ replicate c (index eq x ds) ++ numbers eq ds ys
  numbers-same zero x ds ys = refl
  numbers-same (suc c) x ds ys = ap (λ (l : List ℕ). index eq x ds ∷ l) (numbers-same c x ds ys)
