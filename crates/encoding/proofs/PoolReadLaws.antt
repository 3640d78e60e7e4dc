-- A list written as `pool` is read as two sections: its distinct elements, and runs of their numbers. The order of first use is judged on the
-- runs' values.
use Prim.Native.Nat.{ℕ, zero, suc, ◌-◌, ◌≤◌, ◌<◌}
use mathlib.Core.Path.{◌≡◌, sym, ap, ap₂, ◌∙◌, subst}
use mathlib.Core.Logic.{ite, if_neg}
use mathlib.Core.List.{List, [], ◌∷◌, ◌++◌, append-nil}
use native.Mathlib.Decide.{ℕ_discrete}
use native.Mathlib.Omega.{arith}
use lib.ListN.{length, drop, replicate}
use Rattle.encoding.specs.Runs.{Run, runs, unrun, OkRuns}
use Rattle.encoding.specs.Distinct.{distinct, numbers, elements, InOrder, Once}
use Rattle.encoding.specs.Codes.{All, counted, Found, Absent}
use Rattle.encoding.specs.Sections.{run_less_code, pool}
use Rattle.encoding.proofs.ListLaws.{all_get_d, all_rest}
use Rattle.encoding.proofs.RunsLaws.{runs-ok, runs-unrun, unrun-runs, unrun-length}
use Rattle.encoding.proofs.DistinctLaws.{in_order, once-distinct, elements-length, index-self, distinct-elements, numbers-elements}
use Rattle.encoding.proofs.SectionLaws.{all-distinct, numbers-length, front}

abbrev pub values : List (Run ℕ) → List ℕ
values [] = []
values (r ∷ rs) = r.value ∷ values rs

-- a number that was used before changes nothing
settled→ : (m k v : ℕ) → v < k → (j : ℕ) (ys : List ℕ) → InOrder m k (replicate j v ++ ys) → InOrder m k ys
settled→ m k v h zero ys o = o
settled→ m k v h (suc j) ys o =
    settled→ m k v h j ys (subst (λ (x : ℕ). InOrder m x (replicate j v ++ ys)) (if_neg (ℕ_discrete v k) (λ e. omega arith) (suc k) k) o.1)

settled← : (m k v : ℕ) → v < k → (j : ℕ) (ys : List ℕ) → InOrder m k ys → InOrder m k (replicate j v ++ ys)
settled← m k v h zero ys o = o
settled← m k v h (suc j) ys o =
    (omega arith, subst (λ (x : ℕ). InOrder m x (replicate j v ++ ys)) (sym (if_neg (ℕ_discrete v k) (λ e. omega arith) (suc k) k)) (settled← m k v h j ys o))

-- the count after a number is above it
above : (v k : ℕ) (d : Dec (v ≡ k)) → v ≤ k → v < ite d (suc k) k
above v k (yes p) h = omega arith
above v k (no p) h = omega (arith, p)

at_least : (v k : ℕ) (d : Dec (v ≡ k)) → 1 ≤ k → 1 ≤ ite d (suc k) k
at_least v k (yes p) h = omega arith
at_least v k (no p) h = h

pub order-values : (m n : ℕ) (rs : List (Run ℕ)) (i w k : ℕ) → OkRuns 0 n i w rs → 1 ≤ k → InOrder m k (unrun 0 i n rs) → InOrder m k (values rs)
order-values m n [] i w k o h g = settled→ m k 0 h (n - i) [] (subst (InOrder m k) (sym (append-nil (replicate (n - i) 0))) g)
order-values m n (r ∷ rs) i w k o h g =
    let j : ℕ = r.last - r.first in
    let e : suc r.last - r.first ≡ suc j = omega (arith, o.1) in
    let t : List ℕ = unrun 0 (suc r.last) n rs in
    let a : InOrder m k (replicate (suc r.last - r.first) r.value ++ t) = settled→ m k 0 h (r.first - i) _ g in
    let b : InOrder m k (replicate (suc j) r.value ++ t) = subst (λ (x : ℕ). InOrder m k (replicate x r.value ++ t)) e a in
    let k' : ℕ = ite (ℕ_discrete r.value k) (suc k) k in (
      b.0,
      order-values m n rs (suc r.last) r.value k' o.5 (at_least r.value k (ℕ_discrete r.value k) h)
          (settled→ m k' r.value (above r.value k (ℕ_discrete r.value k) b.0) j t b.1),
    )

pub values-order : (m n : ℕ) (rs : List (Run ℕ)) (i w k : ℕ) → OkRuns 0 n i w rs → 1 ≤ k → InOrder m k (values rs) → InOrder m k (unrun 0 i n rs)
values-order m n [] i w k o h g = subst (InOrder m k) (append-nil (replicate (n - i) 0)) (settled← m k 0 h (n - i) [] g)
values-order m n (r ∷ rs) i w k o h g =
    let j : ℕ = r.last - r.first in
    let e : suc j ≡ suc r.last - r.first = omega (arith, o.1) in
    let t : List ℕ = unrun 0 (suc r.last) n rs in
    let k' : ℕ = ite (ℕ_discrete r.value k) (suc k) k in
    let b : InOrder m k (replicate (suc j) r.value ++ t) = (
      g.0,
      settled← m k' r.value (above r.value k (ℕ_discrete r.value k) g.0) j t
          (values-order m n rs (suc r.last) r.value k' o.5 (at_least r.value k (ℕ_discrete r.value k) h) g.1),
    ) in
    settled← m k 0 h (r.first - i) _ (subst (λ (x : ℕ). InOrder m k (replicate x r.value ++ t)) e b)

module _ {A : Type 0} (eq : Discrete A) (code : A → List ℕ) (P : A → Type 0) (none : A) (pn : P none) (n : ℕ) where
  -- distinct elements other than none, each of which is P; and runs of their numbers from 1 on in order of first use, all used
  abbrev pub OkPool : List A → Type 0
  OkPool ds = Once eq (none ∷ ds) × All P ds

  abbrev pub OkRunNumbers : List A → List (Run ℕ) → Type 0
  OkRunNumbers ds rs = OkRuns 0 n 0 0 rs × InOrder (suc (length ds)) 1 (values rs)

  abbrev pub OkList : List A → Type 0
  OkList xs = (length xs ≡ n) × All P xs

  abbrev pub TwoRuns : List A × List (Run ℕ) → List ℕ
  TwoRuns p = counted code p.0 ++ counted run_less_code p.1

  abbrev pub OkTwoRuns : List A × List (Run ℕ) → Type 0
  OkTwoRuns p = OkPool p.0 × OkRunNumbers p.0 p.1

  all-elements : (ds : List A) → All P ds → (is : List ℕ) → All P (elements none ds is)
  all-elements ds a [] = tt
  all-elements ds a (i ∷ is) = (all_get_d P ds none i pn a, all-elements ds a is)

  pub pool-found : (s : List ℕ) (at q : ℕ) → Found TwoRuns OkTwoRuns s at q → Found (pool eq code none) OkList s at q
  pool-found s at q f =
      let ds = f.0.0 in
      let rs = f.0.1 in
      let ok = f.1.1.0 in
      let is = unrun 0 0 n rs in
      let o : InOrder (length (none ∷ ds)) 1 is = values-order (suc (length ds)) n rs 0 0 1 ok (omega arith) f.1.1.1 in
      let xs = elements none (none ∷ ds) is in
      let d : distinct eq (none ∷ []) xs ≡ none ∷ ds = distinct-elements eq none (none ∷ ds) is 1 f.1.0.0 o in
      let m : numbers eq (distinct eq (none ∷ []) xs) xs ≡ is = ap (λ (l : List A). numbers eq l xs) d ∙ numbers-elements eq none (none ∷ ds) is 1 f.1.0.0 o in
      let r : runs ℕ_discrete 0 0 (numbers eq (distinct eq (none ∷ []) xs) xs) ≡ rs = ap (runs ℕ_discrete 0 0) m ∙ runs-unrun ℕ_discrete 0 rs n 0 0 ok in (
        xs,
        (elements-length none (none ∷ ds) is ∙ unrun-length 0 n 0 0 rs ok ∙ omega arith, all-elements (none ∷ ds) (pn, f.1.0.1) is),
        f.2,
        f.3 ∙ ap₂ (λ (l : List A) (t : List (Run ℕ)). (counted code l ++ counted run_less_code t) ++ drop q s) (ap (drop 1) (sym d)) (sym r),
      )

  once-none : Once eq (none ∷ [])
  once-none zero z h = index-self eq none []
  once-none (suc k) z h = absurd (omega arith)

  pub pool-absent : (s : List ℕ) (at : ℕ) → Absent TwoRuns OkTwoRuns s at → Absent (pool eq code none) OkList s at
  pool-absent s at h xs rest ok e =
      let D = distinct eq (none ∷ []) xs in
      let ns = numbers eq D xs in
      let rs = runs ℕ_discrete 0 0 ns in
      let fr : D ≡ none ∷ drop 1 D = front eq none xs in
      let l : length ns ≡ n = numbers-length eq D xs ∙ ok.0 in
      let o : OkRuns 0 n 0 0 rs = runs-ok ℕ_discrete 0 ns n 0 (omega (arith, l)) in
      let u : unrun 0 0 n rs ≡ ns = unrun-runs ℕ_discrete 0 ns n 0 (omega (arith, l)) in
      let g : InOrder (suc (length (drop 1 D))) 1 (unrun 0 0 n rs) =
      subst (InOrder (suc (length (drop 1 D))) 1) (sym u) (subst (λ (m : ℕ). InOrder m 1 ns) (ap length fr) (in_order eq xs (none ∷ []))) in
      h (drop 1 D, rs) rest (
        (subst (Once eq) fr (once-distinct eq xs (none ∷ []) once-none), all_rest P D (all-distinct eq P xs (none ∷ []) (pn, tt) ok.1)),
        (o, order-values (suc (length (drop 1 D))) n rs 0 0 1 o (omega arith) g),
      ) e
