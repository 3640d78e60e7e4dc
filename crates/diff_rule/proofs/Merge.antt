-- The width differences of one glyph by a merge of two clusters, whose classes rise: what is left of the clusters tells all classes from the next one on.
use Prim.Native.Nat.{ℕ, zero, suc, ◌+◌, ◌-◌, ◌≤◌, ◌<◌}
use mathlib.Core.Path.{◌≡◌, refl, sym, ap₂, ◌∙◌}
use mathlib.Core.Option.{Option as Maybe, some}
use Rattle.std.specs.Prelude.{Some}
use mathlib.Core.List.{List, [], ◌∷◌, ◌++◌}
use native.Mathlib.Omega.{arith}
use Rattle.types.specs.declared.Direction.{Direction}
use Rattle.types.specs.declared.Pair.{Pair}
use Rattle.meaning.specs.Ask.{record_of}
use Rattle.meaning.specs.Limits.{Rising}
use Rattle.meaning.specs.Discrete.{Pair-discrete}
use Rattle.meaning.proofs.AskLaws.{record-here, record-past, record-none}
use Rattle.diff_rule.specs.declared.Aspect.TheVariants.{Width}
use Rattle.diff_rule.specs.declared.Mark.TheVariants.{OnlyFirst, OnlySecond}
use Rattle.diff_rule.specs.declared.Difference.{Difference}
use Rattle.diff_rule.specs.Differences.{mark_of, noted, through, record_differs}
use Rattle.diff_rule.proofs.Through.{skip, pass-over, through_same}

through-first : (f : ℕ → List Difference) (n m i j : ℕ) → 0 < n → m ≡ n - 1 → j ≡ suc i → through f n i ≡ (f i ++ through f m j)
unfolding through
through-first f zero m i j h e q = absurd (omega arith)
through-first f (suc n) m i j h e q =
    let x : n ≡ m = omega arith in
    ap₂ (λ (a b : ℕ). f i ++ through f a b) x (sym q)

module _ (d : Direction) (g : ℕ) where
  same_at : {x y x' y' : Maybe Pair} (c : ℕ) → x ≡ x' → y ≡ y'
      → noted d Width g c (mark_of Pair-discrete x y) ≡ noted d Width g c (mark_of Pair-discrete x' y')
  same_at c e q = ap₂ (λ (x y : Maybe Pair). noted d Width g c (mark_of Pair-discrete x y)) e q

  -- classes below the next ones have no record in either
  nothing-below : (ps qs : List Pair) (b c k : ℕ) → Rising b ps → Rising c qs → k < b → k < c → record_differs d g ps qs k ≡ []
  nothing-below ps qs b c k r s h i = same_at k (record-none ps b k r h) (record-none qs c k s i)

  -- nothing is left
  pub merge-end : (n i : ℕ) → through (record_differs d g [] []) n i ≡ []
  merge-end n i = pass-over (record_differs d g [] []) n i (λ k a b. refl)

  module _ (n i m : ℕ) where
    -- the next class is in the first only: `c` is it, n classes are left from i on and m after it
    pub merge-first : (p : Pair) (ps qs : List Pair) → Rising i (p ∷ ps) → Rising (suc p.class) qs → p.class < i + n → m ≡ i + n - suc p.class
        → through (record_differs d g (p ∷ ps) qs) n i ≡ (noted d Width g p.class (Some OnlyFirst) ++ through (record_differs d g ps qs) m (suc p.class))
    merge-first p ps qs r s h e =
        let c : ℕ = p.class in
        let k : ℕ = c - i in
        let low : i ≤ c = r.0 in
        skip (record_differs d g (p ∷ ps) qs) k n i (n - k) c (omega arith) refl (omega arith)
        (λ j a b. nothing-below (p ∷ ps) qs c (suc c) j (omega arith, r.1) s (omega arith) (omega arith))
        ∙ through-first (record_differs d g (p ∷ ps) qs) (n - k) m c (suc c) (omega arith) (omega arith) refl
        ∙ ap₂ (λ (x y : List Difference). x ++ y) (same_at c (record-here c p ps refl) (record-none qs (suc c) c s (omega arith)))
        (through_same (record_differs d g (p ∷ ps) qs) (record_differs d g ps qs) m (suc c) (λ j a b. same_at {y = record_of j qs} {y' = record_of j qs} j (record-past j p ps (λ q. omega arith)) refl))

    -- in the second only
    pub merge-second : (q : Pair) (ps qs : List Pair) → Rising (suc q.class) ps → Rising i (q ∷ qs) → q.class < i + n → m ≡ i + n - suc q.class
        → through (record_differs d g ps (q ∷ qs)) n i ≡ (noted d Width g q.class (Some OnlySecond) ++ through (record_differs d g ps qs) m (suc q.class))
    merge-second q ps qs r s h e =
        let c : ℕ = q.class in
        let k : ℕ = c - i in
        let low : i ≤ c = s.0 in
        skip (record_differs d g ps (q ∷ qs)) k n i (n - k) c (omega arith) refl (omega arith)
        (λ j a b. nothing-below ps (q ∷ qs) (suc c) c j r (omega arith, s.1) (omega arith) (omega arith))
        ∙ through-first (record_differs d g ps (q ∷ qs)) (n - k) m c (suc c) (omega arith) (omega arith) refl
        ∙ ap₂ (λ (x y : List Difference). x ++ y) (same_at c (record-none ps (suc c) c r (omega arith)) (record-here c q qs refl))
        (through_same (record_differs d g ps (q ∷ qs)) (record_differs d g ps qs) m (suc c) (λ j a b. same_at {x = record_of j ps} {x' = record_of j ps} j refl (record-past j q qs (λ w. omega arith))))

    -- in both
    pub merge-both : (p q : Pair) (ps qs : List Pair) → Rising i (p ∷ ps) → Rising i (q ∷ qs) → p.class ≡ q.class → p.class < i + n
        → m ≡ i + n - suc p.class
        → through (record_differs d g (p ∷ ps) (q ∷ qs)) n i
        ≡ (noted d Width g p.class (mark_of Pair-discrete (some p) (some q)) ++ through (record_differs d g ps qs) m (suc p.class))
    merge-both p q ps qs r s w h e =
        let c : ℕ = p.class in
        let k : ℕ = c - i in
        let low : i ≤ c = r.0 in
        skip (record_differs d g (p ∷ ps) (q ∷ qs)) k n i (n - k) c (omega arith) refl (omega arith)
        (λ j a b. nothing-below (p ∷ ps) (q ∷ qs) c c j (omega arith, r.1) (omega arith, s.1) (omega arith) (omega arith))
        ∙ through-first (record_differs d g (p ∷ ps) (q ∷ qs)) (n - k) m c (suc c) (omega arith) (omega arith) refl
        ∙ ap₂ (λ (x y : List Difference). x ++ y) (same_at c (record-here c p ps refl) (record-here c q qs (sym w)))
        (through_same (record_differs d g (p ∷ ps) (q ∷ qs)) (record_differs d g ps qs) m (suc c)
        (λ j a b. same_at j (record-past j p ps (λ u. omega arith)) (record-past j q qs (λ u. omega arith))))
