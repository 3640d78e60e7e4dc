-- The list is empty exactly when the meanings are equal, so exactly when their sheets are equal byte for byte.
use Prim.Native.Nat.{ℕ, zero, suc, ◌+◌, ◌*◌, ◌/◌, ◌%◌, ◌<◌}
use mathlib.Core.Path.{◌≡◌, refl, sym, ap, ap₂, ◌∙◌, subst}
use mathlib.Core.Bool.{Bool, true, false, cond, ◌&&◌}
use mathlib.Core.Logic.{ite}
use mathlib.Core.Option.{Option as Maybe, none, some}
use Rattle.std.specs.Prelude.{Option, None, Some}
use mathlib.Core.List.{List, [], ◌∷◌, ◌++◌}
use native.Mathlib.Decide.{ℕ_discrete}
use native.Mathlib.Omega.{arith}
use native.Mathlib.Nat.{mod-lt, div-lt_iff_lt-mul}
use lib.Dec.{eqb}
use lib.ListN.{get_or, get_elem?}
use lib.Seq.{ext_get_or}
use borrow.Author.Tests.{eqb-true, eq-eqb}
use Rattle.encoding.proofs.ListLaws.{all-at, elem-ext-below}
use Rattle.types.specs.declared.Direction.{Direction}
use Rattle.types.specs.declared.Direction.TheVariants.{Horizontal, Vertical}
use Rattle.meaning.specs.Meaning.{Machine, Action, Side, Meaning}
use Rattle.meaning.specs.Ask.{cell_of, record_of}
use Rattle.meaning.specs.Discrete.{Entry-discrete, Pair-discrete, list-discrete}
use Rattle.meaning.specs.Limits.{OkMachine, OkMaybe, OkCluster, OkSide, Valid}
use Rattle.meaning.specs.Sheet.{write}
use Rattle.meaning.proofs.AskLaws.{cell_at, cluster-same}
use Rattle.meaning.proofs.SheetLaws.{write-injective}
use Rattle.diff_rule.specs.declared.Aspect.{Aspect}
use Rattle.diff_rule.specs.declared.Aspect.TheVariants.{Sizes, Class, Cell, Width, Actions}
use Rattle.diff_rule.specs.declared.Mark.{Mark}
use Rattle.diff_rule.specs.declared.Mark.TheVariants.{Changed}
use Rattle.diff_rule.specs.declared.Difference.{Difference}
use Rattle.diff_rule.specs.Differences.{mark_of, noted, through, classes_differ, cells_differ, machines_differ, records_differ, widths_differ, some_list, lists_differ, sides_differ, differences}

-- ---- lists that are empty

append-first : (xs ys : List Difference) → (xs ++ ys) ≡ [] → xs ≡ []
append-first [] ys e = refl
append-first (x ∷ xs) ys e = let z : ◌≡◌ {A = ℕ} 0 1 = cc in absurd (omega arith)

append-second : (xs ys : List Difference) → (xs ++ ys) ≡ [] → ys ≡ []
append-second [] ys e = e
append-second (x ∷ xs) ys e = let z : ◌≡◌ {A = ℕ} 0 1 = cc in absurd (omega arith)

through-none : (f : ℕ → List Difference) (n i : ℕ) → through f n i ≡ [] → (k : ℕ) → k < n → f (i + k) ≡ []
unfolding through
through-none f zero i e k h = absurd (omega arith)
through-none f (suc n) i e zero h = let z : i ≡ i + 0 = omega arith in ap f (sym z) ∙ append-first (f i) (through f n (suc i)) e
through-none f (suc n) i e (suc k) h =
    let z : suc i + k ≡ i + suc k = omega arith in
    ap f (sym z) ∙ through-none f n (suc i) (append-second (f i) (through f n (suc i)) e) k (omega arith)

-- from the first place on
each_none : (f : ℕ → List Difference) (n : ℕ) → through f n 0 ≡ [] → (k : ℕ) → k < n → f k ≡ []
each_none f n e k h = let z : k ≡ 0 + k = omega arith in ap f z ∙ through-none f n 0 e k h

through_empty : (f : ℕ → List Difference) → ((k : ℕ) → f k ≡ []) → (n i : ℕ) → through f n i ≡ []
unfolding through
through_empty f h zero i = refl
through_empty f h (suc n) i = ap₂ (λ (x y : List Difference). x ++ y) (h i) (through_empty f h n (suc i))

noted-none : (d : Direction) (a : Aspect) (x y : ℕ) (o : Option Mark) → noted d a x y o ≡ [] → o ≡ None
noted-none d a x y None e = refl
noted-none d a x y (Some m) e = let z : ◌≡◌ {A = ℕ} 0 1 = cc in absurd (omega arith)

-- ---- parts that are the same

module _ {A : Type 0} (eq : Discrete A) where
  pub none-same : (x y : Maybe A) → mark_of eq x y ≡ None → x ≡ y
  none-same none none e = refl
  none-same (some x) none e = let z : ◌≡◌ {A = ℕ} 0 1 = cc in absurd (omega arith)
  none-same none (some y) e = let z : ◌≡◌ {A = ℕ} 0 1 = cc in absurd (omega arith)
  none-same (some x) (some y) e = go (eq x y) e
    where
      go : (q : Dec (x ≡ y)) → ite q None (Some Changed) ≡ None → some x ≡ some y
      go (yes p) w = ap some p
      go (no p) w = let z : ◌≡◌ {A = ℕ} 0 1 = cc in absurd (omega arith)

  pub same_none : (x : Maybe A) → mark_of eq x x ≡ None
  same_none none = refl
  same_none (some x) = go (eq x x)
    where
      go : (q : Dec (x ≡ x)) → ite q None (Some Changed) ≡ None
      go (yes p) = refl
      go (no p) = absurd (p refl)

pub list_same : (l k : List Action) → some_list l ≡ some_list k → l ≡ k
list_same [] [] e = refl
list_same [] (x ∷ k) e = let z : ◌≡◌ {A = ℕ} 0 1 = cc in absurd (omega arith)
list_same (x ∷ l) [] e = let z : ◌≡◌ {A = ℕ} 0 1 = cc in absurd (omega arith)
list_same (x ∷ l) (y ∷ k) e = cc

pub both : (a b : Bool) → (a && b) ≡ true → (a ≡ true) × (b ≡ true)
both true true e = (refl, refl)
both true false e = (refl, e)
both false true e = (e, refl)
both false false e = (e, e)

module _ (d : Direction) (n : ℕ) where
  -- ---- no difference, equal parts

  machine-same : (a b : Machine) → OkMachine n a → OkMachine n b → a.rows ≡ b.rows → a.classes ≡ b.classes
      → classes_differ d n a b ≡ [] → cells_differ d a b ≡ [] → a ≡ b
  unfolding classes_differ cells_differ
  machine-same a b ha hb rows classes ks cs =
      let columns : a.columns ≡ b.columns =
      elem-ext-below n a.columns b.columns (omega (arith, ha.column-count)) (omega (arith, hb.column-count))
      (λ g l. none-same ℕ_discrete _ _ (noted-none d Class g 0 _ (each_none _ n ks g l))) in
      let w : ℕ = a.classes in
      let size : b.rows * b.classes ≡ a.rows * w = ap₂ ◌*◌ (sym rows) (sym classes) in
      let wide : 0 < w = omega (arith, ha.some-classes) in
      let cells : a.cells ≡ b.cells =
      elem-ext-below (a.rows * w) a.cells b.cells (omega (arith, ha.cell-count)) (omega (arith, hb.cell-count, size))
      (λ k l.
      sym (cell_at a w k refl wide l)
      ∙ none-same Entry-discrete _ _
      (noted-none d Cell (k / w) (k % w) _ (each_none _ w (each_none _ a.rows cs (k / w) ((div-lt_iff_lt-mul {k = w} wide).1 l)) (k % w) (mod-lt k wide)))
      ∙ cell_at b w k classes wide (subst (λ (r : ℕ). k < r * w) rows l)) in
      λ i. record { rows = rows i; classes = classes i; columns = columns i; cells = cells i }

  any_same : (a b : Maybe Machine) → OkMaybe n a → OkMaybe n b → machines_differ d n a b ≡ [] → a ≡ b
  any_same none none ha hb e = refl
  any_same none (some b) ha hb e = let z : ◌≡◌ {A = ℕ} 0 1 = cc in absurd (omega arith)
  any_same (some a) none ha hb e = let z : ◌≡◌ {A = ℕ} 0 1 = cc in absurd (omega arith)
  any_same (some a) (some b) ha hb e = go (eqb a.rows b.rows && eqb a.classes b.classes) refl e
    where
      go : (q : Bool) → (eqb a.rows b.rows && eqb a.classes b.classes) ≡ q
          → cond q (classes_differ d n a b ++ cells_differ d a b) (noted d Sizes 0 0 (Some Changed)) ≡ [] → some a ≡ some b
      go true t w =
          let s = both (eqb a.rows b.rows) (eqb a.classes b.classes) t in
          ap some
          (machine-same a b ha hb (eqb-true _ _ s.0) (eqb-true _ _ s.1) (append-first (classes_differ d n a b) (cells_differ d a b) w)
          (append-second (classes_differ d n a b) (cells_differ d a b) w))
      go false t w = let z : ◌≡◌ {A = ℕ} 0 1 = cc in absurd (omega arith)

  side_same : (a b : Side) → OkSide n a → OkSide n b → sides_differ d n a b ≡ [] → a ≡ b
  unfolding sides_differ widths_differ records_differ lists_differ
  side_same a b ha hb e =
      let tail : (widths_differ d n a b ++ lists_differ d n a b) ≡ [] = append-second (machines_differ d n a.machine b.machine) _ e in
      let ws : widths_differ d n a b ≡ [] = append-first (widths_differ d n a b) (lists_differ d n a b) tail in
      let ls : lists_differ d n a b ≡ [] = append-second (widths_differ d n a b) (lists_differ d n a b) tail in
      let machine : a.machine ≡ b.machine =
      any_same a.machine b.machine ha.machine hb.machine (append-first (machines_differ d n a.machine b.machine) _ e) in
      let clusters : a.clusters ≡ b.clusters =
      ext_get_or [] a.clusters b.clusters (ha.cluster-count ∙ sym hb.cluster-count)
      (λ g l.
      let p : OkCluster (get_or a.clusters g []) = all-at OkCluster a.clusters [] g ha.clusters l in
      let q : OkCluster (get_or b.clusters g []) =
      all-at OkCluster b.clusters [] g hb.clusters (omega (arith, ha.cluster-count, hb.cluster-count)) in
      cluster-same (get_or a.clusters g []) (get_or b.clusters g []) 0 0 p.2 q.2 p.1 q.1
      (λ c k.
      none-same Pair-discrete _ _ (noted-none d Width g c _ (each_none _ 128 (each_none _ n ws g (omega (arith, ha.cluster-count))) c k)))) in
      let lists : a.lists ≡ b.lists =
      ext_get_or [] a.lists b.lists (ha.list_count ∙ sym hb.list_count)
      (λ g l. list_same _ _ (none-same list-discrete _ _ (noted-none d Actions g 0 _ (each_none _ n ls g (omega (arith, ha.list_count)))))) in
      λ i. record { machine = machine i; clusters = clusters i; lists = lists i }

  -- ---- equal parts, no difference

  no_note : (a : Aspect) (x y : ℕ) {o : Option Mark} → o ≡ None → noted d a x y o ≡ []
  no_note a x y e = ap (noted d a x y) e

  machine-empty : (a : Maybe Machine) → machines_differ d n a a ≡ []
  unfolding classes_differ cells_differ
  machine-empty none = refl
  machine-empty (some a) =
      simp (eq-eqb a.rows a.rows refl, eq-eqb a.classes a.classes refl)
      (ap₂ (λ (x y : List Difference). x ++ y)
      (through_empty _ (λ g. no_note Class g 0 (same_none ℕ_discrete (get_elem? a.columns g))) n 0)
      (through_empty _ (λ r. through_empty _ (λ c. no_note Cell r c (same_none Entry-discrete (cell_of a r c))) a.classes 0) a.rows 0))

  side-empty : (a : Side) → sides_differ d n a a ≡ []
  unfolding sides_differ widths_differ records_differ lists_differ
  side-empty a =
      ap₂ (λ (x y : List Difference). x ++ y) (machine-empty a.machine)
      (ap₂ (λ (x y : List Difference). x ++ y)
      (through_empty _ (λ g. through_empty _ (λ c. no_note Width g c (same_none Pair-discrete (record_of c (get_or a.clusters g [])))) 128 0) n 0)
      (through_empty _ (λ g. no_note Actions g 0 (same_none list-discrete (some_list (get_or a.lists g [])))) n 0))

pub empty-same : (m m' : Meaning) → Valid m → Valid m' → m.glyphs ≡ m'.glyphs → differences m m' ≡ [] → m ≡ m'
unfolding differences
empty-same m m' v v' n e =
    let xs = sides_differ Horizontal m.glyphs m.horizontal m'.horizontal in
    let ys = sides_differ Vertical m.glyphs m.vertical m'.vertical in
    let hor = side_same Horizontal m.glyphs m.horizontal m'.horizontal v.horizontal
    (subst (λ (k : ℕ). OkSide k m'.horizontal) (sym n) v'.horizontal) (append-first xs ys e) in
    let ver = side_same Vertical m.glyphs m.vertical m'.vertical v.vertical
    (subst (λ (k : ℕ). OkSide k m'.vertical) (sym n) v'.vertical) (append-second xs ys e) in
    λ i. record { glyphs = n i; horizontal = hor i; vertical = ver i }

self-empty : (m : Meaning) → differences m m ≡ []
unfolding differences
self-empty m =
    ap₂ (λ (x y : List Difference). x ++ y) (side-empty Horizontal m.glyphs m.horizontal) (side-empty Vertical m.glyphs m.vertical)

pub same-empty : (m m' : Meaning) → m ≡ m' → differences m m' ≡ []
same-empty m m' e = subst (λ (x : Meaning). differences m x ≡ []) e (self-empty m)

-- the list is empty exactly when the sheets are equal
pub empty-sheets : (m m' : Meaning) → Valid m → Valid m' → m.glyphs ≡ m'.glyphs
    → (differences m m' ≡ [] → write m ≡ write m') × (write m ≡ write m' → differences m m' ≡ [])
empty-sheets m m' v v' n =
    (λ e. ap write (empty-same m m' v v' n e), λ e. same-empty m m' (write-injective m m' v v' e))
