-- The steps of the merge, and what is left after them.
use Prim.Native.Nat.{ℕ, zero, suc, ◌+◌, ◌-◌, ◌≤◌, ◌<◌}
use mathlib.Core.Path.{◌≡◌, sym, ap, ap₂, ◌∙◌, subst}
use mathlib.Core.List.{List, [], ◌∷◌, ◌++◌, append_assoc, append-nil}
use mathlib.Core.Option.{some}
use Rattle.std.specs.Prelude.{Option, Some}
use native.Mathlib.Omega.{arith}
use Rattle.types.specs.declared.Direction.{Direction}
use Rattle.types.specs.declared.Pair.{Pair}
use Rattle.meaning.specs.Limits.{Rising}
use Rattle.meaning.specs.Discrete.{Pair-discrete}
use Rattle.cluster.specs.Faults.{pair_class}
use Rattle.cluster.specs.Pairs.{pair_at, pairs_at, cluster_at}
use Rattle.write_cluster.proofs.Laws.{pairs-cons, pairs-none}
use Rattle.diff_rule.specs.declared.Aspect.TheVariants.{Width}
use Rattle.diff_rule.specs.declared.Mark.{Mark}
use Rattle.diff_rule.specs.declared.Mark.TheVariants.{OnlyFirst, OnlySecond}
use Rattle.diff_rule.specs.declared.Difference.{Difference}
use Rattle.diff_rule.specs.Differences.{mark_of, noted, through, record_differs, records_differ}
use Rattle.diff_rule.specs.Order.{Stores}
use Rattle.diff_rule.proofs.Stored.{stores-none, stores-two, stores-other}
use Rattle.diff_rule.proofs.Merge.{merge-first, merge-second, merge-both, merge-end}
use Rattle.diff_clusters.specs.declared.Pairs.{Pairs}
use Rattle.diff_clusters.specs.declared.MergeStep.{MergeStep}
use Rattle.diff_clusters.specs.Merge.{pairs_in, left_of, after_first, Steps}

class-fits : (t : List ℕ) (at : ℕ) → pair_class t at < 128
unfolding pair_class
class-fits t at = omega arith

-- ---- steps

-- pairs whose first class is above c
above : (u : List ℕ) (c i right b : ℕ) → (0 < right → c < pair_class u b) → Rising i (pairs_at u right b) → Rising (suc c) (pairs_at u right b)
unfolding pairs_at pair_at
above u c i zero b f r = tt
above u c i (suc k) b f r = (f (omega arith), r.1)

-- the first pair and the others
opened : (t : List ℕ) (i : ℕ) (p : Pairs) → 0 < p.count → Rising i (left_of t p) → Rising i (pair_at t p.at ∷ left_of t (after_first p))
opened t i p h r = subst (Rising i) (pairs-cons t p.count p.at h) r

module _ (t u : List ℕ) (p q : Pairs) where
  first_by : 0 < p.count → (0 < q.count → pair_class t p.at < pair_class u q.at)
      → Steps t u p q (record { class = pair_class t p.at; mark = Some OnlyFirst; ones = after_first p; others = q })
  unfolding pair_at
  first_by h f = record {
    class = class-fits t p.at;
    fewer = omega arith;
    near = omega arith;
    beside = omega arith;
    ones = λ i r s. (opened t i p h r).1;
    others = λ i r s. above u (pair_class t p.at) i q.count q.at f s;
    next = λ d g i n e r s.
        let fits : pair_class t p.at < 128 = class-fits t p.at in
        ap (λ (l : List Pair). through (record_differs d g l (left_of u q)) n i) (pairs-cons t p.count p.at h)
        ∙ merge-first d g n i (128 - suc (pair_class t p.at)) (pair_at t p.at) (left_of t (after_first p)) (left_of u q) (opened t i p h r)
        (above u (pair_class t p.at) i q.count q.at f s) (omega arith) (omega arith);
  }

  second-by : 0 < q.count → (0 < p.count → pair_class u q.at < pair_class t p.at)
      → Steps t u p q (record { class = pair_class u q.at; mark = Some OnlySecond; ones = p; others = after_first q })
  unfolding pair_at
  second-by h f = record {
    class = class-fits u q.at;
    fewer = omega arith;
    near = omega arith;
    beside = omega arith;
    ones = λ i r s. above t (pair_class u q.at) i p.count p.at f r;
    others = λ i r s. (opened u i q h s).1;
    next = λ d g i n e r s.
        let fits : pair_class u q.at < 128 = class-fits u q.at in
        ap (λ (l : List Pair). through (record_differs d g (left_of t p) l) n i) (pairs-cons u q.count q.at h)
        ∙ merge-second d g n i (128 - suc (pair_class u q.at)) (pair_at u q.at) (left_of t p) (left_of u (after_first q))
        (above t (pair_class u q.at) i p.count p.at f r) (opened u i q h s) (omega arith) (omega arith);
  }

  both_by : (o : Option Mark) → 0 < p.count → 0 < q.count → pair_class t p.at ≡ pair_class u q.at
      → o ≡ mark_of Pair-discrete (some (pair_at t p.at)) (some (pair_at u q.at))
      → Steps t u p q (record { class = pair_class t p.at; mark = o; ones = after_first p; others = after_first q })
  unfolding pair_at
  both_by o h k e eo = record {
    class = class-fits t p.at;
    fewer = omega arith;
    near = omega arith;
    beside = omega arith;
    ones = λ i r s. (opened t i p h r).1;
    others = λ i r s. subst (λ (x : ℕ). Rising (suc x) (left_of u (after_first q))) (sym e) (opened u i q k s).1;
    next = λ d g i n m r s.
        let fits : pair_class t p.at < 128 = class-fits t p.at in
        ap₂ (λ (x y : List Pair). through (record_differs d g x y) n i) (pairs-cons t p.count p.at h) (pairs-cons u q.count q.at k)
        ∙ merge-both d g n i (128 - suc (pair_class t p.at)) (pair_at t p.at) (pair_at u q.at) (left_of t (after_first p)) (left_of u (after_first q))
        (opened t i p h r) (opened u i q k s) e (omega arith) (omega arith)
        ∙ ap (λ (x : Option Mark). noted d Width g (pair_class t p.at) x
        ++ through (record_differs d g (left_of t (after_first p)) (left_of u (after_first q))) (128 - suc (pair_class t p.at)) (suc (pair_class t p.at))) (sym eo);
  }

  -- the same, with the classes as they were read
  pub first-steps : (c : ℕ) (r : MergeStep) → c ≡ pair_class t p.at → 0 < p.count → (0 < q.count → c < pair_class u q.at)
      → r ≡ record { class = c; mark = Some OnlyFirst; ones = after_first p; others = q } → Steps t u p q r
  first-steps c r e h f er = subst (Steps t u p q) (sym (er ∙ λ i. record { class = e i; mark = Some OnlyFirst; ones = after_first p; others = q })) (first_by h (λ m. omega (arith, f m)))

  pub second-steps : (c : ℕ) (r : MergeStep) → c ≡ pair_class u q.at → 0 < q.count → (0 < p.count → c < pair_class t p.at)
      → r ≡ record { class = c; mark = Some OnlySecond; ones = p; others = after_first q } → Steps t u p q r
  second-steps c r e h f er = subst (Steps t u p q) (sym (er ∙ λ i. record { class = e i; mark = Some OnlySecond; ones = p; others = after_first q })) (second-by h (λ m. omega (arith, f m)))

  pub both-steps : (c : ℕ) (o : Option Mark) (r s : Pairs) → c ≡ pair_class t p.at → c ≡ pair_class u q.at → 0 < p.count → 0 < q.count
      → o ≡ mark_of Pair-discrete (some (pair_at t p.at)) (some (pair_at u q.at)) → r ≡ after_first p → s ≡ after_first q
      → Steps t u p q (record { class = c; mark = o; ones = r; others = s })
  both-steps c o r s e f h k eo er es =
      subst (Steps t u p q) (λ i. record { class = sym e i; mark = o; ones = sym er i; others = sym es i }) (both_by o h k (sym e ∙ f) eo)

-- the differences `done` are followed by those of what is left
pub record Rest (t u : List ℕ) (first second : ℕ) (p q : Pairs) (done : Direction → ℕ → List Difference) : Type 0 where
  pub next : ℕ
  pub most : next ≤ 128
  pub ones : Rising next (left_of t p)
  pub others : Rising next (left_of u q)
  pub whole : (d : Direction) (g : ℕ) → records_differ d g (cluster_at t first) (cluster_at u second)
      ≡ (done d g ++ through (record_differs d g (left_of t p) (left_of u q)) (128 - next) next)

module _ (t u : List ℕ) (first second : ℕ) (p q : Pairs) where
  rest_all : p ≡ pairs_in t first → q ≡ pairs_in u second
      → Rising 0 (cluster_at t first) → Rising 0 (cluster_at u second) → Rest t u first second p q (λ d g. [])
  unfolding cluster_at records_differ
  rest_all ep eq r s =
      let e : cluster_at t first ≡ left_of t p = ap (left_of t) (sym ep) in
      let f : cluster_at u second ≡ left_of u q = ap (left_of u) (sym eq) in
      record {
        next = 0;
        most = omega arith;
        ones = subst (Rising 0) e r;
        others = subst (Rising 0) f s;
        whole = λ d g. ap₂ (λ (l m : List Pair). through (record_differs d g l m) 128 0) e f;
      }

  rest-next : (done : Direction → ℕ → List Difference) (r : MergeStep) → Steps t u p q r → Rest t u first second p q done
      → Rest t u first second r.ones r.others (λ d g. done d g ++ noted d Width g r.class r.mark)
  rest-next done r s w = record {
    next = suc r.class;
    most = omega (arith, s.class);
    ones = s.ones w.next w.ones w.others;
    others = s.others w.next w.ones w.others;
    whole = λ d g.
        let m : w.next + (128 - w.next) ≡ 128 = omega (arith, w.most) in
        w.whole d g
        ∙ ap (λ (l : List Difference). done d g ++ l) (s.next d g w.next (128 - w.next) m w.ones w.others)
        ∙ sym (append_assoc (done d g) (noted d Width g r.class r.mark)
        (through (record_differs d g (left_of t r.ones) (left_of u r.others)) (128 - suc r.class) (suc r.class)));
  }

  rest_end : (done : Direction → ℕ → List Difference) → Rest t u first second p q done → p.count + q.count ≤ 0 → (d : Direction) (g : ℕ)
      → done d g ≡ records_differ d g (cluster_at t first) (cluster_at u second)
  rest_end done w h d g =
      sym (w.whole d g
      ∙ ap₂ (λ (l m : List Pair). done d g ++ through (record_differs d g l m) (128 - w.next) w.next) (pairs-none t p.count p.at (omega arith)) (pairs-none u q.count q.at (omega arith))
      ∙ ap (λ (l : List Difference). done d g ++ l) (merge-end d g (128 - w.next) w.next)
      ∙ append-nil (done d g))

-- ---- stored

-- what is done is stored from `to` on, up to `end`
pub record Put (t u : List ℕ) (first second : ℕ) (p q : Pairs) (direction : Direction) (glyph : ℕ) (l₀ l : List ℕ) (to end : ℕ) : Type 0 where
  pub done : Direction → ℕ → List Difference
  pub rest : Rest t u first second p q done
  pub stores : Stores l₀ l to end (done direction glyph)

module _ (t u : List ℕ) (first second : ℕ) (p q : Pairs) (direction : Direction) (glyph : ℕ) (l₀ : List ℕ) (to : ℕ) where
  pub put_all : p ≡ pairs_in t first → q ≡ pairs_in u second → Rising 0 (cluster_at t first) → Rising 0 (cluster_at u second)
      → Put t u first second p q direction glyph l₀ l₀ to to
  put_all ep eq r s = record { done = λ d g. []; rest = rest_all t u first second p q ep eq r s; stores = stores-none l₀ to }

  pub put-more : (l : List ℕ) (end : ℕ) (r : MergeStep) (l₁ : List ℕ) (end₁ : ℕ) → Put t u first second p q direction glyph l₀ l to end → Steps t u p q r
      → Stores l l₁ end end₁ (noted direction Width glyph r.class r.mark)
      → Put t u first second r.ones r.others direction glyph l₀ l₁ to end₁
  put-more l end r l₁ end₁ w s e = record {
    done = λ d g. w.done d g ++ noted d Width g r.class r.mark;
    rest = rest-next t u first second p q w.done r s w.rest;
    stores = stores-two (w.done direction glyph) (noted direction Width glyph r.class r.mark) l₀ l l₁ to end end₁ w.stores e;
  }

  pub put-end : (l : List ℕ) (end : ℕ) → Put t u first second p q direction glyph l₀ l to end → p.count + q.count ≤ 0
      → Stores l₀ l to end (records_differ direction glyph (cluster_at t first) (cluster_at u second))
  put-end l end w h = stores-other l₀ l to end _ _ (rest_end t u first second p q w.done w.rest h direction glyph) w.stores
