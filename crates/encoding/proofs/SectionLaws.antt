-- Each kind of section gives back the list that it was written for, and what follows it.
use Prim.Native.Nat.{ℕ, zero, suc, ◌+◌, ◌-◌, ◌≤◌, ◌<◌, ◌^◌}
use mathlib.Core.Path.{◌≡◌, refl, sym, ap, ap₂, ◌∙◌, subst}
use mathlib.Core.Logic.{ite, if_neg}
use mathlib.Core.List.{List, [], ◌∷◌, ◌++◌, append_assoc, append-nil, head-eq_of_cons-eq, tail-eq_of_cons-eq}
use native.Mathlib.Decide.{ℕ_discrete}
use native.Mathlib.Omega.{arith}
use lib.ListN.{length, drop, replicate, length-append, length-drop}
use Rattle.fields.specs.Field.{be16}
use Rattle.encoding.specs.Runs.{Run, runs, OkRuns}
use Rattle.encoding.specs.Distinct.{index, distinct, numbers, elements}
use Rattle.encoding.specs.Codes.{All, many, counted, PrefixFree}
use Rattle.encoding.specs.Sections.{byte, run_code, run_less_code, run_section, numbered, pool}
use Rattle.encoding.proofs.ListLaws.{all_append, all_map, all-unit, all_rest}
use Rattle.encoding.proofs.RunsLaws.{runs-ok, runs-skips, all_runs, runs-injective, ok-few}
use Rattle.encoding.proofs.DistinctLaws.{index-le, index-self, distinct-extends, elements-numbers}
use Rattle.encoding.proofs.CodeLaws.{be16-free, counted-free}

-- bytes one after the other are the bytes
pub many-byte : (bs : List ℕ) → many byte bs ≡ bs
many-byte [] = refl
many-byte (b ∷ bs) = ap (λ (l : List ℕ). b ∷ l) (many-byte bs)

-- ---- codes one after the other

-- what follows may depend on what stands first
pub both-free : {A B : Type 0} (codeA : A → List ℕ) (okA : A → Type 0) (codeB : A → B → List ℕ) (okB : A → B → Type 0)
    → PrefixFree codeA okA → ((a : A) → PrefixFree (codeB a) (okB a))
    → (a a' : A) (b b' : B) (s t : List ℕ) → okA a → okA a' → okB a b → okB a' b'
    → (codeA a ++ codeB a b) ++ s ≡ (codeA a' ++ codeB a' b') ++ t → (a ≡ a') × (b ≡ b') × (s ≡ t)
both-free codeA okA codeB okB fA fB a a' b b' s t ha ha' hb hb' e =
    let f = fA a a' (codeB a b ++ s) (codeB a' b' ++ t) ha ha' (sym (append_assoc (codeA a) (codeB a b) s) ∙ e ∙ append_assoc (codeA a') (codeB a' b') t) in
    let g = fB a b b' s t hb (subst (λ (x : _). okB x b') (sym f.0) hb') (f.1 ∙ ap (λ (x : _). codeB x b' ++ t) (sym f.0)) in
    (f.0, g.0, g.1)

pub byte-free : PrefixFree byte (λ x. Unit {0})
byte-free a b s t ha hb e = (head-eq_of_cons-eq e, tail-eq_of_cons-eq e)

-- ---- runs

abbrev pub WideRun : Run ℕ → Type 0
WideRun r = (r.first < 2 ^ 16) × (r.last < 2 ^ 16) × (r.value < 2 ^ 16)

abbrev pub WideRunLess : Run ℕ → Type 0
WideRunLess r = (r.first < 2 ^ 16) × (r.last < 2 ^ 16) × (r.value ≡ 0 → ⊥) × (r.value ≤ 2 ^ 16)

pub run-free : PrefixFree run_code WideRun
run-free a b s t ha hb e =
    let f = be16-free a.first b.first (be16 a.last ++ (be16 a.value ++ s)) (be16 b.last ++ (be16 b.value ++ t)) ha.0 hb.0 e in
    let g = be16-free a.last b.last (be16 a.value ++ s) (be16 b.value ++ t) ha.1 hb.1 f.1 in
    let h = be16-free a.value b.value s t ha.2 hb.2 g.1 in
    ((λ i. record { first = f.0 i; last = g.0 i; value = h.0 i }), h.1)

pub run-less-free : PrefixFree run_less_code WideRunLess
run-less-free a b s t ha hb e =
    let f = be16-free a.first b.first (be16 a.last ++ (be16 (a.value - 1) ++ s)) (be16 b.last ++ (be16 (b.value - 1) ++ t)) ha.0 hb.0 e in
    let g = be16-free a.last b.last (be16 (a.value - 1) ++ s) (be16 (b.value - 1) ++ t) ha.1 hb.1 f.1 in
    let h = be16-free (a.value - 1) (b.value - 1) s t (omega (arith, ha.3)) (omega (arith, hb.3)) g.1 in
    let v : a.value ≡ b.value = omega (arith, h.0, ha.2, hb.2) in
    ((λ i. record { first = f.0 i; last = g.0 i; value = v i }), h.1)

-- what well formed runs of at most 65,536 elements are, P being known of the values
pub ok-wide : (skip n : ℕ) (P : ℕ → Type 0) → n ≤ 2 ^ 16 → (rs : List (Run ℕ)) (i w : ℕ) → OkRuns skip n i w rs → All (λ (r : Run ℕ). P r.value) rs
    → All (λ (r : Run ℕ). (r.first < 2 ^ 16) × (r.last < 2 ^ 16) × (r.value ≡ skip → ⊥) × P r.value) rs
ok-wide skip n P h [] i w o a = tt
ok-wide skip n P h (r ∷ rs) i w o a =
    ((omega (arith, o.1, o.2), omega (arith, o.2), o.3, a.0), ok-wide skip n P h rs (suc r.last) r.value o.5 a.1)

-- a section of runs, for either way of writing a run
module _ (code : Run ℕ → List ℕ) (ok : Run ℕ → Type 0) (free : PrefixFree code ok) (skip n : ℕ) (hn : n ≤ 2 ^ 16) (P : ℕ → Type 0)
    (wide : (r : Run ℕ) → (r.first < 2 ^ 16) × (r.last < 2 ^ 16) × (r.value ≡ skip → ⊥) × P r.value → ok r) where
  few : (xs : List ℕ) → length xs ≡ n → All P xs → (length (runs ℕ_discrete skip 0 xs) < 2 ^ 32) × All ok (runs ℕ_discrete skip 0 xs)
  few xs l a =
      let o = runs-ok ℕ_discrete skip xs n 0 (omega (arith, l)) in
      let rs = runs ℕ_discrete skip 0 xs in (
        omega (arith, ok-few ℕ_discrete skip rs n 0 skip o),
        all_map _ ok wide rs (ok-wide skip n P hn rs 0 skip o (all_runs ℕ_discrete skip P xs 0 a)),
      )

  pub runs-free : PrefixFree (λ (xs : List ℕ). counted code (runs ℕ_discrete skip 0 xs)) (λ xs. (length xs ≡ n) × All P xs)
  runs-free xs ys s t a b e =
      let f = counted-free code ok free (runs ℕ_discrete skip 0 xs) (runs ℕ_discrete skip 0 ys) s t (few xs a.0 a.1) (few ys b.0 b.1) e in
      (runs-injective ℕ_discrete skip xs ys (a.0 ∙ sym b.0) f.0, f.1)

pub run-section-free : (skip n limit : ℕ) → n ≤ 2 ^ 16 → limit ≤ 2 ^ 16 → PrefixFree (run_section skip) (λ xs. (length xs ≡ n) × All (λ (x : ℕ). x < limit) xs)
run-section-free skip n limit hn hl =
    runs-free run_code WideRun run-free skip n hn (λ (x : ℕ). x < limit) (λ r h. (h.0, h.1, omega (arith, h.3)))

-- ---- distinct elements and numbers

module _ {A : Type 0} (eq : Discrete A) where
  pub all-distinct : (P : A → Type 0) (xs seen : List A) → All P seen → All P xs → All P (distinct eq seen xs)
  all-distinct P [] seen hs h = hs
  all-distinct P (x ∷ xs) seen hs h =
      go (ℕ_discrete (index eq x seen) (length seen)) (all-distinct P xs (seen ++ (x ∷ [])) (all_append P seen (x ∷ []) hs (h.0, tt)) h.1) (all-distinct P xs seen hs h.1)
    where
      go : (d : Dec (index eq x seen ≡ length seen)) → All P (distinct eq (seen ++ (x ∷ [])) xs) → All P (distinct eq seen xs)
          → All P (ite d (distinct eq (seen ++ (x ∷ [])) xs) (distinct eq seen xs))
      go (yes p) a b = a
      go (no p) a b = b

  pub distinct-length : (xs seen : List A) → length (distinct eq seen xs) ≤ length seen + length xs
  distinct-length [] seen = omega arith
  distinct-length (x ∷ xs) seen = go (ℕ_discrete (index eq x seen) (length seen)) (distinct-length xs (seen ++ (x ∷ []))) (distinct-length xs seen)
    where
      go : (d : Dec (index eq x seen ≡ length seen)) → length (distinct eq (seen ++ (x ∷ [])) xs) ≤ length (seen ++ (x ∷ [])) + length xs
          → length (distinct eq seen xs) ≤ length seen + length xs
          → length (ite d (distinct eq (seen ++ (x ∷ [])) xs) (distinct eq seen xs)) ≤ length seen + suc (length xs)
      go (yes p) a b = omega (arith, length-append seen (x ∷ []))
      go (no p) a b = omega arith

  pub numbers-length : (ds xs : List A) → length (numbers eq ds xs) ≡ length xs
  numbers-length ds [] = refl
  numbers-length ds (x ∷ xs) = ap suc (numbers-length ds xs)

  pub numbers-le : (ds xs : List A) → All (λ (i : ℕ). i ≤ length ds) (numbers eq ds xs)
  numbers-le ds [] = tt
  numbers-le ds (x ∷ xs) = (index-le eq x ds, numbers-le ds xs)

  -- equal distinct elements and equal numbers: equal lists
  pub same-elements : (z : A) (seen xs ys : List A) → distinct eq seen xs ≡ distinct eq seen ys
      → numbers eq (distinct eq seen xs) xs ≡ numbers eq (distinct eq seen ys) ys → xs ≡ ys
  same-elements z seen xs ys e f =
      sym (elements-numbers eq z xs seen) ∙ ap₂ (elements z) e f ∙ elements-numbers eq z ys seen

  pub front : (none : A) (xs : List A) → distinct eq (none ∷ []) xs ≡ none ∷ drop 1 (distinct eq (none ∷ []) xs)
  front none xs =
      let e = distinct-extends eq xs (none ∷ []) in
      e.1 ∙ ap (λ (l : List A). none ∷ drop 1 l) (sym e.1)

  module _ (code : A → List ℕ) (ok : A → Type 0) (free : PrefixFree code ok) where
    pub numbered-free : A → PrefixFree (numbered eq code) (λ xs. (length xs < 2 ^ 32) × All ok xs)
    numbered-free z xs ys s t a b e =
        let dx = distinct eq [] xs in
        let dy = distinct eq [] ys in
        let f = counted-free code ok free dx dy (counted byte (numbers eq dx xs) ++ s) (counted byte (numbers eq dy ys) ++ t)
        (omega (arith, a.0, distinct-length xs []), all-distinct ok xs [] tt a.1) (omega (arith, b.0, distinct-length ys []), all-distinct ok ys [] tt b.1)
        (sym (append_assoc (counted code dx) (counted byte (numbers eq dx xs)) s) ∙ e ∙ append_assoc (counted code dy) (counted byte (numbers eq dy ys)) t) in
        let g = counted-free byte (λ x. Unit {0}) byte-free (numbers eq dx xs) (numbers eq dy ys) s t
        (omega (arith, a.0, numbers-length dx xs), all-unit (numbers eq dx xs)) (omega (arith, b.0, numbers-length dy ys), all-unit (numbers eq dy ys)) f.1 in
        (same-elements z [] xs ys f.0 g.0, g.1)

    pub pool-free : (none : A) (n : ℕ) → n < 2 ^ 16 → ok none → PrefixFree (pool eq code none) (λ xs. (length xs ≡ n) × All ok xs)
    pool-free none n hn hz xs ys s t a b e =
        let dx = distinct eq (none ∷ []) xs in
        let dy = distinct eq (none ∷ []) ys in
        let nx = numbers eq dx xs in
        let ny = numbers eq dy ys in
        let f = counted-free code ok free (drop 1 dx) (drop 1 dy) (counted run_less_code (runs ℕ_discrete 0 0 nx) ++ s) (counted run_less_code (runs ℕ_discrete 0 0 ny) ++ t)
        (omega (arith, a.0, distinct-length xs (none ∷ []), length-drop 1 dx), all_rest ok dx (all-distinct ok xs (none ∷ []) (hz, tt) a.1))
        (omega (arith, b.0, distinct-length ys (none ∷ []), length-drop 1 dy), all_rest ok dy (all-distinct ok ys (none ∷ []) (hz, tt) b.1))
        (sym (append_assoc (counted code (drop 1 dx)) (counted run_less_code (runs ℕ_discrete 0 0 nx)) s) ∙ e
        ∙ append_assoc (counted code (drop 1 dy)) (counted run_less_code (runs ℕ_discrete 0 0 ny)) t) in
        let g = runs-free run_less_code WideRunLess run-less-free 0 n (omega arith) (λ (i : ℕ). i ≤ 2 ^ 16) (λ r h. h) nx ny s t
        (numbers-length dx xs ∙ a.0, all_map _ _ (λ (i : ℕ) h. small i xs a.0 h) nx (numbers-le dx xs))
        (numbers-length dy ys ∙ b.0, all_map _ _ (λ (i : ℕ) h. small i ys b.0 h) ny (numbers-le dy ys)) f.1 in
        (same-elements none (none ∷ []) xs ys (front none xs ∙ ap (λ (l : List A). none ∷ l) f.0 ∙ sym (front none ys)) g.0, g.1)
      where
        small : (i : ℕ) (zs : List A) → length zs ≡ n → i ≤ length (distinct eq (none ∷ []) zs) → i ≤ 2 ^ 16
        small i zs l h = omega (arith, distinct-length zs (none ∷ []))

-- ---- a list of nothing but none

module _ {A : Type 0} (eq : Discrete A) (none : A) where
  distinct_none : (n : ℕ) → distinct eq (none ∷ []) (replicate n none) ≡ none ∷ []
  distinct_none zero = refl
  distinct_none (suc n) =
      if_neg (ℕ_discrete (index eq none (none ∷ [])) 1) (λ e. omega (arith, index-self eq none [])) _ _ ∙ distinct_none n

  numbers-none : (n : ℕ) → numbers eq (none ∷ []) (replicate n none) ≡ replicate n 0
  numbers-none zero = refl
  numbers-none (suc n) = ap₂ (λ (i : ℕ) (l : List ℕ). i ∷ l) (index-self eq none []) (numbers-none n)

  -- a list of nothing but none has two sections of count 0
  pub pool-none : (code : A → List ℕ) (n : ℕ) → pool eq code none (replicate n none) ≡ replicate 8 0
  pool-none code n =
      let r : runs ℕ_discrete 0 0 (replicate n 0) ≡ [] =
      ap (runs ℕ_discrete 0 0) (sym (append-nil (replicate n 0))) ∙ runs-skips ℕ_discrete 0 n 0 [] in
      let m : runs ℕ_discrete 0 0 (numbers eq (distinct eq (none ∷ []) (replicate n none)) (replicate n none)) ≡ [] =
      ap (λ (ds : List A). runs ℕ_discrete 0 0 (numbers eq ds (replicate n none))) (distinct_none n)
      ∙ ap (runs ℕ_discrete 0 0) (numbers-none n) ∙ r in
      ap₂ (λ (ds : List A) (rs : List (Run ℕ)). counted code (drop 1 ds) ++ counted run_less_code rs) (distinct_none n) m
