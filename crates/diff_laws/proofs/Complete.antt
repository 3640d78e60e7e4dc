-- Nothing is left out: a part that no difference of the list names answers alike in the two meanings, a class or a cell where the sizes are not named either.
use Prim.Native.Nat.{ℕ, zero, suc, ◌+◌, ◌*◌, ◌≤◌, ◌<◌}
use mathlib.Core.Path.{◌≡◌, refl, sym, ap, ap₂, ◌∙◌, subst}
use mathlib.Core.Bool.{Bool, true, false, cond, ◌&&◌}
use mathlib.Core.Option.{Option as Maybe, none, some}
use Rattle.std.specs.Prelude.{Option, None, Some}
use mathlib.Core.List.{List, [], ◌∷◌, ◌++◌}
use native.Mathlib.Decide.{ℕ_discrete, dec_lt}
use native.Mathlib.Omega.{arith}
use lib.Dec.{eqb, ltb}
use lib.ListN.{get_or, get_elem?, get_or-eq_default}
use borrow.Author.Tests.{eqb-true, eq-eqb, le-ltb}
use Rattle.encoding.specs.Codes.{All}
use Rattle.encoding.proofs.ListLaws.{all-at, elem-none}
use Rattle.types.specs.declared.Direction.{Direction}
use Rattle.types.specs.declared.Direction.TheVariants.{Horizontal, Vertical}
use Rattle.types.specs.declared.Pair.{Pair}
use Rattle.meaning.specs.Meaning.{Machine, Action, Side, Meaning}
use Rattle.meaning.specs.Ask.{Part, sizes, class, cell, width, action, number, both, entry, pair, act, maybe, cell_of, record_of, ask_side, ask}
use Rattle.meaning.specs.Discrete.{Entry-discrete, Pair-discrete, list-discrete}
use Rattle.meaning.specs.Limits.{OkMachine, OkMaybe, OkPair, OkCluster, OkSide, Valid}
use Rattle.meaning.proofs.AskLaws.{record-past}
use Rattle.diff_rule.specs.declared.Aspect.{Aspect}
use Rattle.diff_rule.specs.declared.Aspect.TheVariants.{Sizes, Class, Cell, Width, Actions}
use Rattle.diff_rule.specs.declared.Mark.{Mark}
use Rattle.diff_rule.specs.declared.Mark.TheVariants.{Changed}
use Rattle.diff_rule.specs.declared.Difference.{Difference}
use Rattle.diff_rule.specs.Differences.{mark_of, noted, through, classes_differ, cells_differ, machines_differ, record_differs, records_differ, widths_differ, some_list, list_differs, lists_differ, sides_differ, differences}
use Rattle.diff_rule.proofs.Empty as empty
use Rattle.diff_rule.proofs.Empty.{none-same, list_same}
use Rattle.diff_laws.specs.Unlike.{SameAnswer, Names, Unnamed, Listable}

-- ---- lists of differences, taken apart

module _ (P : Difference → Type 0) where
  all_first : (xs ys : List Difference) → All P (xs ++ ys) → All P xs
  all_first [] ys w = tt
  all_first (x ∷ xs) ys w = (w.0, all_first xs ys w.1)

  all-second : (xs ys : List Difference) → All P (xs ++ ys) → All P ys
  all-second [] ys w = w
  all-second (x ∷ xs) ys w = all-second xs ys w.1

  all-later : (f : ℕ → List Difference) (n i : ℕ) → All P (through f n i) → (k : ℕ) → k < n → All P (f (i + k))
  unfolding through
  all-later f zero i w k h = absurd (omega arith)
  all-later f (suc n) i w zero h = let z : i ≡ i + 0 = omega arith in subst (λ (j : ℕ). All P (f j)) z (all_first (f i) (through f n (suc i)) w)
  all-later f (suc n) i w (suc k) h =
      let z : suc i + k ≡ i + suc k = omega arith in
      subst (λ (j : ℕ). All P (f j)) z (all-later f n (suc i) (all-second (f i) (through f n (suc i)) w) k (omega arith))

  all-place : (f : ℕ → List Difference) (n : ℕ) → All P (through f n 0) → (k : ℕ) → k < n → All P (f k)
  all-place f n w k h = let z : 0 + k ≡ k = omega arith in subst (λ (j : ℕ). All P (f j)) z (all-later f n 0 w k h)

  no_note : (d : Direction) (a : Aspect) (x y : ℕ) (o : Option Mark) → All P (noted d a x y o)
      → ((mark : Mark) → P (record { direction = d; aspect = a; mark = mark; subject = x; class = y }) → ⊥) → o ≡ None
  no_note d a x y None w k = refl
  no_note d a x y (Some mark) w k = absurd (k mark w.0)

-- ---- past the limits, nothing

no_record_lem : (ps : List Pair) (c : ℕ) → All OkPair ps → 128 ≤ c → record_of c ps ≡ none
no_record_lem [] c w h = refl
no_record_lem (p ∷ ps) c w h = record-past c p ps (λ e. omega (arith, w.0.0)) ∙ no_record_lem ps c w.1 h

no_cell_lem : (m : Machine) (r c : ℕ) → (ltb r m.rows && ltb c m.classes) ≡ false → cell_of m r c ≡ none
no_cell_lem m r c e = ap (λ (b : Bool). cond b (get_elem? m.cells (r * m.classes + c)) none) e

not-both : (a b : Bool) → a ≡ false → (a && b) ≡ false
not-both true b e = let z : ◌≡◌ {A = ℕ} 0 1 = ap (λ (x : Bool). cond x 0 1) e in absurd (omega arith)
not-both false b e = refl

not-second : (a b : Bool) → b ≡ false → (a && b) ≡ false
not-second true b e = e
not-second false b e = refl

module _ (n : ℕ) (d : Direction) (a b : Side) (oka : OkSide n a) (okb : OkSide n b) where
  -- ---- records and lists

  widths-alike : (g c : ℕ) → Unnamed d (width g c) (widths_differ d n a b)
      → record_of c (get_or a.clusters g []) ≡ record_of c (get_or b.clusters g [])
  unfolding widths_differ records_differ
  widths-alike g c w = go (dec_lt g n) (dec_lt c 128)
    where
      go : Dec (g < n) → Dec (c < 128) → record_of c (get_or a.clusters g []) ≡ record_of c (get_or b.clusters g [])
      go (yes h) (yes k) =
          none-same Pair-discrete (record_of c (get_or a.clusters g [])) (record_of c (get_or b.clusters g []))
          (no_note (λ (x : Difference). Names d (width g c) x → ⊥) d Width g c _
          (all-place (λ (x : Difference). Names d (width g c) x → ⊥) (record_differs d g (get_or a.clusters g []) (get_or b.clusters g [])) 128
          (all-place (λ (x : Difference). Names d (width g c) x → ⊥) (λ g. records_differ d g (get_or a.clusters g []) (get_or b.clusters g [])) n w g h) c k)
          (λ mark z. z (refl, refl, refl, refl)))
      go (yes h) (no k) =
          no_record_lem (get_or a.clusters g []) c (all-at OkCluster a.clusters [] g oka.clusters (omega (arith, oka.cluster-count))).1 (omega (arith, k))
          ∙ sym (no_record_lem (get_or b.clusters g []) c (all-at OkCluster b.clusters [] g okb.clusters (omega (arith, okb.cluster-count))).1 (omega (arith, k)))
      go (no h) k =
          ap (record_of c) (get_or-eq_default a.clusters [] (omega (arith, h, oka.cluster-count)))
          ∙ sym (ap (record_of c) (get_or-eq_default b.clusters [] (omega (arith, h, okb.cluster-count))))

  lists-alike : (g k : ℕ) → Unnamed d (action g k) (lists_differ d n a b) → get_or a.lists g [] ≡ get_or b.lists g []
  unfolding lists_differ
  lists-alike g k w = go (dec_lt g n)
    where
      go : Dec (g < n) → get_or a.lists g [] ≡ get_or b.lists g []
      go (yes h) =
          list_same (get_or a.lists g []) (get_or b.lists g [])
          (none-same list-discrete (some_list (get_or a.lists g [])) (some_list (get_or b.lists g []))
          (no_note (λ (x : Difference). Names d (action g k) x → ⊥) d Actions g 0 _
          (all-place (λ (x : Difference). Names d (action g k) x → ⊥) (λ g. list_differs d g (get_or a.lists g []) (get_or b.lists g [])) n w g h)
          (λ mark z. z (refl, refl, refl))))
      go (no h) =
          get_or-eq_default a.lists [] (omega (arith, h, oka.list_count)) ∙ sym (get_or-eq_default b.lists [] (omega (arith, h, okb.list_count)))

-- ---- two machines of one size

module _ (n : ℕ) (d : Direction) (x y : Machine) (okx : OkMachine n x) (oky : OkMachine n y) (rows : x.rows ≡ y.rows) (classes : x.classes ≡ y.classes) where
  class-alike : (g : ℕ) → Unnamed d (class g) (classes_differ d n x y) → get_elem? x.columns g ≡ get_elem? y.columns g
  unfolding classes_differ
  class-alike g w = go (dec_lt g n)
    where
      go : Dec (g < n) → get_elem? x.columns g ≡ get_elem? y.columns g
      go (yes h) =
          none-same ℕ_discrete (get_elem? x.columns g) (get_elem? y.columns g)
          (no_note (λ (z : Difference). Names d (class g) z → ⊥) d Class g 0 _
          (all-place (λ (z : Difference). Names d (class g) z → ⊥) (λ g. noted d Class g 0 (mark_of ℕ_discrete (get_elem? x.columns g) (get_elem? y.columns g))) n w g h)
          (λ mark z. z (refl, refl, refl)))
      go (no h) =
          elem-none x.columns g (omega (arith, h, okx.column-count)) ∙ sym (elem-none y.columns g (omega (arith, h, oky.column-count)))

  cell-alike : (r c : ℕ) → Unnamed d (cell r c) (cells_differ d x y) → cell_of x r c ≡ cell_of y r c
  unfolding cells_differ
  cell-alike r c w = go (dec_lt r x.rows) (dec_lt c x.classes)
    where
      go : Dec (r < x.rows) → Dec (c < x.classes) → cell_of x r c ≡ cell_of y r c
      go (yes h) (yes k) =
          none-same Entry-discrete (cell_of x r c) (cell_of y r c)
          (no_note (λ (z : Difference). Names d (cell r c) z → ⊥) d Cell r c _
          (all-place (λ (z : Difference). Names d (cell r c) z → ⊥) (λ c. noted d Cell r c (mark_of Entry-discrete (cell_of x r c) (cell_of y r c))) x.classes
          (all-place (λ (z : Difference). Names d (cell r c) z → ⊥) (λ r. through (λ c. noted d Cell r c (mark_of Entry-discrete (cell_of x r c) (cell_of y r c))) x.classes 0) x.rows w r h) c k)
          (λ mark z. z (refl, refl, refl, refl)))
      go (yes h) (no k) =
          no_cell_lem x r c (not-second (ltb r x.rows) (ltb c x.classes) (le-ltb c x.classes (omega (arith, k))))
          ∙ sym (no_cell_lem y r c (not-second (ltb r y.rows) (ltb c y.classes) (le-ltb c y.classes (omega (arith, k, classes)))))
      go (no h) k =
          no_cell_lem x r c (not-both (ltb r x.rows) (ltb c x.classes) (le-ltb r x.rows (omega (arith, h))))
          ∙ sym (no_cell_lem y r c (not-both (ltb r y.rows) (ltb c y.classes) (le-ltb r y.rows (omega (arith, h, rows)))))

-- ---- the machines

-- two of one size, or none in both
abbrev Paired : Maybe Machine → Maybe Machine → Type 0
Paired none none = Unit {0}
Paired (some x) none = ⊥
Paired none (some y) = ⊥
Paired (some x) (some y) = (x.rows ≡ y.rows) × (x.classes ≡ y.classes)

module _ (n : ℕ) (d : Direction) where
  paired : (p q : Maybe Machine) → Unnamed d sizes (machines_differ d n p q) → Paired p q
  paired none none w = tt
  paired (some x) none w = w.0 (refl, refl)
  paired none (some y) w = w.0 (refl, refl)
  paired (some x) (some y) w = go (eqb x.rows y.rows && eqb x.classes y.classes) refl w
    where
      go : (t : Bool) → (eqb x.rows y.rows && eqb x.classes y.classes) ≡ t
          → Unnamed d sizes (cond t (classes_differ d n x y ++ cells_differ d x y) (noted d Sizes 0 0 (Some Changed)))
          → (x.rows ≡ y.rows) × (x.classes ≡ y.classes)
      go true t v =
          let s = empty.both (eqb x.rows y.rows) (eqb x.classes y.classes) t in
          (eqb-true x.rows y.rows s.0, eqb-true x.classes y.classes s.1)
      go false t v = absurd (v.0 (refl, refl))

  -- of two of one size, classes and cells are listed
  parts-unnamed : (part : Part) (x y : Machine) → x.rows ≡ y.rows → x.classes ≡ y.classes → Unnamed d part (machines_differ d n (some x) (some y))
      → Unnamed d part (classes_differ d n x y ++ cells_differ d x y)
  parts-unnamed part x y er ec w =
      subst (λ (t : Bool). Unnamed d part (cond t (classes_differ d n x y ++ cells_differ d x y) (noted d Sizes 0 0 (Some Changed))))
      (ap₂ (λ (a b : Bool). a && b) (eq-eqb x.rows y.rows er) (eq-eqb x.classes y.classes ec)) w

  sizes-answers : (p q : Maybe Machine) → Paired p q → maybe (λ (x : Machine). both x.rows x.classes) p ≡ maybe (λ (x : Machine). both x.rows x.classes) q
  sizes-answers none none e = refl
  sizes-answers (some x) none e = absurd e
  sizes-answers none (some y) e = absurd e
  sizes-answers (some x) (some y) e = ap₂ both e.0 e.1

  class-answers : (g : ℕ) (p q : Maybe Machine) → OkMaybe n p → OkMaybe n q → Paired p q → Unnamed d (class g) (machines_differ d n p q)
      → maybe (λ (x : Machine). maybe number (get_elem? x.columns g)) p ≡ maybe (λ (x : Machine). maybe number (get_elem? x.columns g)) q
  class-answers g none none a b e w = refl
  class-answers g (some x) none a b e w = absurd e
  class-answers g none (some y) a b e w = absurd e
  class-answers g (some x) (some y) a b e w =
      ap (maybe number) (class-alike n d x y a b e.0 e.1 g
      (all_first (λ (z : Difference). Names d (class g) z → ⊥) (classes_differ d n x y) (cells_differ d x y) (parts-unnamed (class g) x y e.0 e.1 w)))

  cell-answers : (r c : ℕ) (p q : Maybe Machine) → OkMaybe n p → OkMaybe n q → Paired p q → Unnamed d (cell r c) (machines_differ d n p q)
      → maybe (λ (x : Machine). maybe entry (cell_of x r c)) p ≡ maybe (λ (x : Machine). maybe entry (cell_of x r c)) q
  cell-answers r c none none a b e w = refl
  cell-answers r c (some x) none a b e w = absurd e
  cell-answers r c none (some y) a b e w = absurd e
  cell-answers r c (some x) (some y) a b e w =
      ap (maybe entry) (cell-alike n d x y a b e.0 e.1 r c
      (all-second (λ (z : Difference). Names d (cell r c) z → ⊥) (classes_differ d n x y) (cells_differ d x y) (parts-unnamed (cell r c) x y e.0 e.1 w)))

-- ---- a direction, and all

module _ (n : ℕ) (d : Direction) (a b : Side) (oka : OkSide n a) (okb : OkSide n b) where
  -- what is said of the machines, of the records and of the lists
  of-machines : (part : Part) → Unnamed d part (sides_differ d n a b) → Unnamed d part (machines_differ d n a.machine b.machine)
  unfolding sides_differ
  of-machines part w =
      all_first (λ (z : Difference). Names d part z → ⊥) (machines_differ d n a.machine b.machine) (widths_differ d n a b ++ lists_differ d n a b) w

  of-glyphs : (part : Part) → Unnamed d part (sides_differ d n a b) → Unnamed d part (widths_differ d n a b ++ lists_differ d n a b)
  unfolding sides_differ
  of-glyphs part w =
      all-second (λ (z : Difference). Names d part z → ⊥) (machines_differ d n a.machine b.machine) (widths_differ d n a b ++ lists_differ d n a b) w

  side-alike : (part : Part) → Listable d part (sides_differ d n a b) → Unnamed d part (sides_differ d n a b) → ask_side a part ≡ ask_side b part
  unfolding ask_side
  side-alike sizes s w = sizes-answers n d a.machine b.machine (paired n d a.machine b.machine (of-machines sizes w))
  side-alike (class g) s w =
      class-answers n d g a.machine b.machine oka.machine okb.machine (paired n d a.machine b.machine (of-machines sizes s)) (of-machines (class g) w)
  side-alike (cell r c) s w =
      cell-answers n d r c a.machine b.machine oka.machine okb.machine (paired n d a.machine b.machine (of-machines sizes s)) (of-machines (cell r c) w)
  side-alike (width g c) s w =
      ap (maybe pair) (widths-alike n d a b oka okb g c
      (all_first (λ (z : Difference). Names d (width g c) z → ⊥) (widths_differ d n a b) (lists_differ d n a b) (of-glyphs (width g c) w)))
  side-alike (action g k) s w =
      ap (λ (l : List Action). maybe act (get_elem? l k)) (lists-alike n d a b oka okb g k
      (all-second (λ (z : Difference). Names d (action g k) z → ⊥) (widths_differ d n a b) (lists_differ d n a b) (of-glyphs (action g k) w)))

-- listable by two lists one after the other, listable by each
module _ (d : Direction) (xs ys : List Difference) where
  listable-first : (part : Part) → Listable d part (xs ++ ys) → Listable d part xs
  listable-first sizes s = tt
  listable-first (class g) s = all_first (λ (z : Difference). Names d sizes z → ⊥) xs ys s
  listable-first (cell r c) s = all_first (λ (z : Difference). Names d sizes z → ⊥) xs ys s
  listable-first (width g c) s = tt
  listable-first (action g k) s = tt

  listable-second : (part : Part) → Listable d part (xs ++ ys) → Listable d part ys
  listable-second sizes s = tt
  listable-second (class g) s = all-second (λ (z : Difference). Names d sizes z → ⊥) xs ys s
  listable-second (cell r c) s = all-second (λ (z : Difference). Names d sizes z → ⊥) xs ys s
  listable-second (width g c) s = tt
  listable-second (action g k) s = tt

module _ (m m' : Meaning) (v : Valid m) (v' : Valid m') (e : m.glyphs ≡ m'.glyphs) where
  pub all_named : (d : Direction) (part : Part) → Listable d part (differences m m') → Unnamed d part (differences m m') → SameAnswer m m' d part
  unfolding differences ask
  all_named Horizontal part s w =
      let n : ℕ = m.glyphs in
      let xs : List Difference = sides_differ Horizontal n m.horizontal m'.horizontal in
      let ys : List Difference = sides_differ Vertical n m.vertical m'.vertical in
      side-alike n Horizontal m.horizontal m'.horizontal v.horizontal (subst (λ (k : ℕ). OkSide k m'.horizontal) (sym e) v'.horizontal)
      part (listable-first Horizontal xs ys part s) (all_first (λ (z : Difference). Names Horizontal part z → ⊥) xs ys w)
  all_named Vertical part s w =
      let n : ℕ = m.glyphs in
      let xs : List Difference = sides_differ Horizontal n m.horizontal m'.horizontal in
      let ys : List Difference = sides_differ Vertical n m.vertical m'.vertical in
      side-alike n Vertical m.vertical m'.vertical v.vertical (subst (λ (k : ℕ). OkSide k m'.vertical) (sym e) v'.vertical)
      part (listable-second Vertical xs ys part s) (all-second (λ (z : Difference). Names Vertical part z → ⊥) xs ys w)
