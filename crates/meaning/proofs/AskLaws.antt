-- A valid meaning is its answers: two that answer alike are equal and are written in the same bytes; and the other way.
use Prim.Native.Nat.{ℕ, suc, ◌+◌, ◌*◌, ◌/◌, ◌%◌, ◌<◌, ◌^◌}
use mathlib.Core.Path.{◌≡◌, refl, sym, ap, ap₂, ◌∙◌, subst}
use mathlib.Core.Bool.{Bool, cond, ◌&&◌}
use mathlib.Core.Option.{Option, none, some, some-injective, none-ne-some, some-ne-none}
use mathlib.Core.List.{List, [], ◌∷◌}
use native.Mathlib.Decide.{ℕ_discrete, dec_lt}
use native.Mathlib.Omega.{arith}
use native.Mathlib.Nat.{div-add-mod', mod-lt, div-lt_iff_lt-mul}
use lib.ListN.{get_or, get_elem?}
use lib.Seq.{ext_get_or}
use borrow.Author.Tests.{lt-ltb, eq-eqb, ne_eqb}
use Rattle.encoding.specs.Codes.{All}
use Rattle.encoding.proofs.ListLaws.{all-at, elem-ext-below}
use Rattle.types.specs.declared.Direction.TheVariants.{Horizontal, Vertical}
use Rattle.types.specs.declared.Entry.{Entry}
use Rattle.types.specs.declared.Pair.{Pair}
use Rattle.meaning.specs.Meaning.{Machine, Action, Side, Meaning}
use Rattle.meaning.specs.Ask.{Part, sizes, class, cell, width, action, Question, glyph_count, along, Answer, nothing, number, both, entry, pair, act, maybe, cell_of, record_of, ask_side, ask}
use Rattle.meaning.specs.Limits.{OkMachine, OkMaybe, OkPair, Rising, OkCluster, OkActions, OkSide, Valid}
use Rattle.meaning.specs.Sheet.{write}
use Rattle.meaning.specs.Same.{AskedPart, Same}
use Rattle.meaning.proofs.SheetLaws.{write-injective}

-- ---- equal answers, equal parts

module _ {A : Type 0} (f : A → Answer) (one : (a b : A) → f a ≡ f b → a ≡ b) (no-thing : (a : A) → f a ≡ nothing → ⊥) where
  maybe-same : (x y : Option A) → maybe f x ≡ maybe f y → x ≡ y
  maybe-same none none e = refl
  maybe-same none (some y) e = absurd (no-thing y (sym e))
  maybe-same (some x) none e = absurd (no-thing x e)
  maybe-same (some x) (some y) e = ap some (one x y e)

number_same : (x y : Option ℕ) → maybe number x ≡ maybe number y → x ≡ y
number_same = maybe-same number (λ a b e. cc) (λ a e. let z : ◌≡◌ {A = ℕ} 0 1 = cc in omega arith)

entry-same : (x y : Option Entry) → maybe entry x ≡ maybe entry y → x ≡ y
entry-same = maybe-same entry (λ a b e. cc) (λ a e. let z : ◌≡◌ {A = ℕ} 0 1 = cc in omega arith)

pair_same : (x y : Option Pair) → maybe pair x ≡ maybe pair y → x ≡ y
pair_same = maybe-same pair (λ a b e. cc) (λ a e. let z : ◌≡◌ {A = ℕ} 0 1 = cc in omega arith)

act-same : (x y : Option Action) → maybe act x ≡ maybe act y → x ≡ y
act-same = maybe-same act (λ a b e. cc) (λ a e. let z : ◌≡◌ {A = ℕ} 0 1 = cc in omega arith)

-- ---- a cluster by its records

pub record-here : (c : ℕ) (p : Pair) (ps : List Pair) → p.class ≡ c → record_of c (p ∷ ps) ≡ some p
record-here c p ps e = ap (λ (b : Bool). cond b (some p) (record_of c ps)) (eq-eqb p.class c e)

pub record-past : (c : ℕ) (p : Pair) (ps : List Pair) → (p.class ≡ c → ⊥) → record_of c (p ∷ ps) ≡ record_of c ps
record-past c p ps h = ap (λ (b : Bool). cond b (some p) (record_of c ps)) (ne_eqb p.class c h)

-- a class below all of them has no record
pub record-none : (ps : List Pair) (least c : ℕ) → Rising least ps → c < least → record_of c ps ≡ none
record-none [] least c r h = refl
record-none (p ∷ ps) least c r h =
    record-past c p ps (λ e. omega (arith, r.0)) ∙ record-none ps (suc p.class) c r.1 (omega (arith, r.0))

-- the lower of two first classes would have a record in one cluster only
record-first : (p q : Pair) (ps qs : List Pair) → Rising (suc q.class) qs → p.class < q.class
    → record_of p.class (p ∷ ps) ≡ record_of p.class (q ∷ qs) → ⊥
record-first p q ps qs r l e =
    some-ne-none p (sym (record-here p.class p ps refl) ∙ e ∙ record-past p.class q qs (λ f. omega arith)
    ∙ record-none qs (suc q.class) p.class r (omega arith))

pub cluster-same : (ps qs : List Pair) (least least' : ℕ) → Rising least ps → Rising least' qs → All OkPair ps → All OkPair qs
    → ((c : ℕ) → c < 128 → record_of c ps ≡ record_of c qs) → ps ≡ qs
cluster-same [] [] least least' r r' a b h = refl
cluster-same [] (q ∷ qs) least least' r r' a b h =
    absurd (none-ne-some q (h q.class b.0.0 ∙ record-here q.class q qs refl))
cluster-same (p ∷ ps) [] least least' r r' a b h =
    absurd (some-ne-none p (sym (record-here p.class p ps refl) ∙ h p.class a.0.0))
cluster-same (p ∷ ps) (q ∷ qs) least least' r r' a b h =
    ap₂ (λ (x : Pair) (l : List Pair). x ∷ l) first
    (cluster-same ps qs (suc p.class) (suc q.class) r.1 r'.1 a.1 b.1 (λ c l. rest c l (ℕ_discrete p.class c)))
  where
    tri : Dec (p.class < q.class) → Dec (q.class < p.class) → p.class ≡ q.class
    tri (yes l) d = absurd (record-first p q ps qs r'.1 l (h p.class a.0.0))
    tri (no l) (yes g) = absurd (record-first q p qs ps r.1 g (sym (h q.class b.0.0)))
    tri (no l) (no g) = omega (arith, l, g)

    classes : p.class ≡ q.class
    classes = tri (dec_lt p.class q.class) (dec_lt q.class p.class)

    first : p ≡ q
    first =
        some-injective p q (sym (record-here p.class p ps refl) ∙ h p.class a.0.0 ∙ record-here p.class q qs (sym classes))

    rest : (c : ℕ) → c < 128 → Dec (p.class ≡ c) → record_of c ps ≡ record_of c qs
    rest c l (yes e) =
        record-none ps (suc p.class) c r.1 (omega arith) ∙ sym (record-none qs (suc q.class) c r'.1 (omega (arith, classes, e)))
    rest c l (no e) = sym (record-past c p ps e) ∙ h c l ∙ record-past c q qs (λ f. e (classes ∙ f))

-- ---- a machine by its cells

pub cell_at : (m : Machine) (w k : ℕ) → w ≡ m.classes → 0 < w → k < m.rows * w → cell_of m (k / w) (k % w) ≡ get_elem? m.cells k
cell_at m w k e h b =
    let r : k / w < m.rows = (div-lt_iff_lt-mul h).1 b in
    let c : k % w < m.classes = subst (λ (x : ℕ). k % w < x) e (mod-lt k h) in
    ap₂ (λ (a b : Bool). cond (a && b) (get_elem? m.cells (k / w * m.classes + k % w)) none) (lt-ltb _ _ r) (lt-ltb _ _ c)
    ∙ ap (get_elem? m.cells) (ap (λ (x : ℕ). k / w * x + k % w) (sym e) ∙ div-add-mod' k w)

module _ (n : ℕ) (hn : n < 2 ^ 16) where
  machine-same : (a b : Machine) → OkMachine n a → OkMachine n b → both a.rows a.classes ≡ both b.rows b.classes
      → ((g : ℕ) → g < 2 ^ 16 → maybe number (get_elem? a.columns g) ≡ maybe number (get_elem? b.columns g))
      → ((r c : ℕ) → r < 2 ^ 16 → c < 2 ^ 16 → maybe entry (cell_of a r c) ≡ maybe entry (cell_of b r c)) → a ≡ b
  machine-same a b ha hb e ks cs =
      let rows : a.rows ≡ b.rows = cc in
      let classes : a.classes ≡ b.classes = cc in
      let columns : a.columns ≡ b.columns =
      elem-ext-below (2 ^ 16) a.columns b.columns (omega (arith, ha.column-count)) (omega (arith, hb.column-count)) (λ g l. number_same _ _ (ks g l)) in
      let w : ℕ = a.classes in
      let size : b.rows * b.classes ≡ a.rows * w = ap₂ ◌*◌ (sym rows) (sym classes) in
      let wide : 0 < w = omega (arith, ha.some-classes) in
      let cells : a.cells ≡ b.cells =
      elem-ext-below (a.rows * w) a.cells b.cells (omega (arith, ha.cell-count)) (omega (arith, hb.cell-count, size))
      (λ k l.
      sym (cell_at a w k refl wide l)
      ∙ entry-same _ _ (cs (k / w) (k % w)
      (omega (arith, (div-lt_iff_lt-mul {k = w} wide).1 l, ha.few-rows)) (omega (arith, mod-lt k wide, ha.few-classes)))
      ∙ cell_at b w k classes wide (subst (λ (r : ℕ). k < r * w) rows l)) in
      λ i. record { rows = rows i; classes = classes i; columns = columns i; cells = cells i }

  -- a machine or none
  any_same : (a b : Option Machine) → OkMaybe n a → OkMaybe n b
      → maybe (λ (m : Machine). both m.rows m.classes) a ≡ maybe (λ (m : Machine). both m.rows m.classes) b
      → ((g : ℕ) → g < 2 ^ 16
      → maybe (λ (m : Machine). maybe number (get_elem? m.columns g)) a ≡ maybe (λ (m : Machine). maybe number (get_elem? m.columns g)) b)
      → ((r c : ℕ) → r < 2 ^ 16 → c < 2 ^ 16
      → maybe (λ (m : Machine). maybe entry (cell_of m r c)) a ≡ maybe (λ (m : Machine). maybe entry (cell_of m r c)) b)
      → a ≡ b
  any_same none none ha hb e ks cs = refl
  any_same none (some b) ha hb e ks cs = let z : ◌≡◌ {A = ℕ} 0 1 = cc in absurd (omega arith)
  any_same (some a) none ha hb e ks cs = let z : ◌≡◌ {A = ℕ} 0 1 = cc in absurd (omega arith)
  any_same (some a) (some b) ha hb e ks cs = ap some (machine-same a b ha hb e ks cs)

  -- ---- a direction by its answers

  pub side_same : (a b : Side) → OkSide n a → OkSide n b → ((p : Part) → AskedPart p → ask_side a p ≡ ask_side b p) → a ≡ b
  unfolding ask_side
  side_same a b ha hb h =
      let machine : a.machine ≡ b.machine =
      any_same a.machine b.machine ha.machine hb.machine (h sizes tt) (λ g l. h (class g) l) (λ r c l k. h (cell r c) (l, k)) in
      let clusters : a.clusters ≡ b.clusters =
      ext_get_or [] a.clusters b.clusters (ha.cluster-count ∙ sym hb.cluster-count)
      (λ g l.
      let p : OkCluster (get_or a.clusters g []) = all-at OkCluster a.clusters [] g ha.clusters l in
      let q : OkCluster (get_or b.clusters g []) =
      all-at OkCluster b.clusters [] g hb.clusters (omega (arith, ha.cluster-count, hb.cluster-count)) in
      cluster-same (get_or a.clusters g []) (get_or b.clusters g []) 0 0 p.2 q.2 p.1 q.1
      (λ c k. pair_same _ _ (h (width g c) (omega (arith, ha.cluster-count), omega arith)))) in
      let lists : a.lists ≡ b.lists =
      ext_get_or [] a.lists b.lists (ha.list_count ∙ sym hb.list_count)
      (λ g l.
      let p : OkActions n (get_or a.lists g []) = all-at (OkActions n) a.lists [] g ha.lists l in
      let q : OkActions n (get_or b.lists g []) =
      all-at (OkActions n) b.lists [] g hb.lists (omega (arith, ha.list_count, hb.list_count)) in
      elem-ext-below (2 ^ 16) (get_or a.lists g []) (get_or b.lists g []) (omega (arith, p.0)) (omega (arith, q.0))
      (λ k j. act-same _ _ (h (action g k) (omega (arith, ha.list_count), j)))) in
      λ i. record { machine = machine i; clusters = clusters i; lists = lists i }

-- ---- a meaning by its answers

-- valid meanings that answer alike are equal
pub same-meaning : (m m' : Meaning) → Valid m → Valid m' → Same m m' → m ≡ m'
unfolding ask
same-meaning m m' v v' h =
    let n : m.glyphs ≡ m'.glyphs = (let e : number m.glyphs ≡ number m'.glyphs = h glyph_count tt in cc) in
    let hn : m.glyphs < 2 ^ 16 = omega (arith, v.few-glyphs) in
    let hor = side_same m.glyphs hn m.horizontal m'.horizontal v.horizontal
    (subst (λ (k : ℕ). OkSide k m'.horizontal) (sym n) v'.horizontal) (λ p k. h (along Horizontal p) k) in
    let ver = side_same m.glyphs hn m.vertical m'.vertical v.vertical
    (subst (λ (k : ℕ). OkSide k m'.vertical) (sym n) v'.vertical) (λ p k. h (along Vertical p) k) in
    λ i. record { glyphs = n i; horizontal = hor i; vertical = ver i }

-- and are written in the same bytes
pub same_bytes : (m m' : Meaning) → Valid m → Valid m' → Same m m' → write m ≡ write m'
same_bytes m m' v v' h = ap write (same-meaning m m' v v' h)

-- equal meanings answer every question alike, and so do valid ones that are written in the same bytes
pub same-answers : (m m' : Meaning) → m ≡ m' → (q : Question) → ask m q ≡ ask m' q
same-answers m m' e q = ap (λ (x : Meaning). ask x q) e

pub bytes-answers : (m m' : Meaning) → Valid m → Valid m' → write m ≡ write m' → (q : Question) → ask m q ≡ ask m' q
bytes-answers m m' v v' e = same-answers m m' (write-injective m m' v v' e)

-- ---- the same of sheets

-- a sheet has one answer to a question
pub one_answer : (bs : List ℕ) (m m' : Meaning) → Valid m → Valid m' → write m ≡ bs → write m' ≡ bs → (q : Question) → ask m q ≡ ask m' q
one_answer bs m m' v v' e e' = bytes-answers m m' v v' (e ∙ sym e')

-- sheets that answer alike are equal
pub same-sheets : (s t : List ℕ) (m m' : Meaning) → Valid m → Valid m' → write m ≡ s → write m' ≡ t → Same m m' → s ≡ t
same-sheets s t m m' v v' e e' h = sym e ∙ same_bytes m m' v v' h ∙ e'
