-- Nothing but differences is listed: the part that a difference names is in the meanings that its mark says, and answers unlike in the two.
use Prim.Native.Nat.{ℕ}
use mathlib.Core.Path.{◌≡◌, refl, sym, ap, ap₂, ◌∙◌, subst}
use mathlib.Core.Bool.{Bool, true, false, cond, ◌&&◌}
use mathlib.Core.Logic.{ite}
use mathlib.Core.Option.{Option as Maybe, none, some}
use Rattle.std.specs.Prelude.{Option, None, Some}
use mathlib.Core.List.{List, [], ◌∷◌, ◌++◌}
use native.Mathlib.Decide.{ℕ_discrete}
use native.Mathlib.Omega.{arith}
use lib.Dec.{eqb}
use lib.ListN.{get_or, get_elem?}
use borrow.Author.Tests.{eq-eqb}
use Rattle.encoding.specs.Codes.{All}
use Rattle.encoding.proofs.ListLaws.{all_append, elem-ext}
use Rattle.types.specs.declared.Direction.{Direction}
use Rattle.types.specs.declared.Direction.TheVariants.{Horizontal, Vertical}
use Rattle.types.specs.declared.Entry.{Entry}
use Rattle.types.specs.declared.Pair.{Pair}
use Rattle.meaning.specs.Meaning.{Machine, Action, Side, Meaning}
use Rattle.meaning.specs.Ask.{sizes, class, cell, along, Answer, nothing, number, both, entry, pair, act, maybe, cell_of, record_of, side_of, ask_side, ask}
use Rattle.meaning.specs.Discrete.{Entry-discrete, Pair-discrete, list-discrete}
use Rattle.diff_rule.specs.declared.Aspect.{Aspect}
use Rattle.diff_rule.specs.declared.Aspect.TheVariants.{Sizes, Class, Cell, Width, Actions}
use Rattle.diff_rule.specs.declared.Mark.{Mark}
use Rattle.diff_rule.specs.declared.Mark.TheVariants.{Changed, OnlyFirst, OnlySecond}
use Rattle.diff_rule.specs.Differences.{mark_of, noted, through, classes_differ, cells_differ, machines_differ, record_differs, records_differ, widths_differ, some_list, list_differs, lists_differ, sides_differ, differences}
use Rattle.diff_rule.proofs.Empty.{same_none}
use Rattle.diff_laws.proofs.Throughout.{all-through}
use Rattle.diff_laws.specs.Unlike.{AllAlike, named_part, Marked, ZeroUnused, Founded}

-- ---- a mark, and the answers

-- a mark, if there is one
abbrev MarkedIf : Option Mark → Answer → Answer → Type 0
MarkedIf None a b = Unit {0}
MarkedIf (Some mark) a b = Marked mark a b

seen_by : (o : Option Mark) (a a' b b' : Answer) → a ≡ a' → b ≡ b' → MarkedIf o a' b' → MarkedIf o a b
seen_by o a a' b b' e f w = subst (λ (y : Answer). MarkedIf o a y) (sym f) (subst (λ (x : Answer). MarkedIf o x b') (sym e) w)

module _ {A : Type 0} (eq : Discrete A) where
  self-unmarked : (x : Maybe A) (mark : Mark) → mark_of eq x x ≡ Some mark → ⊥
  self-unmarked x mark e = let f : None ≡ Some mark = sym (same_none eq x) ∙ e in let z : ◌≡◌ {A = ℕ} 0 1 = cc in omega arith

  module _ (f : A → Answer) (same : (x y : A) → f x ≡ f y → x ≡ y) (given : (x : A) → f x ≡ nothing → ⊥) where
    mark-seen : (p q : Maybe A) → MarkedIf (mark_of eq p q) (maybe f p) (maybe f q)
    mark-seen none none = tt
    mark-seen (some x) none = (given x, refl)
    mark-seen none (some y) = (refl, given y)
    mark-seen (some x) (some y) = go (eq x y)
      where
        go : (d : Dec (x ≡ y)) → MarkedIf (ite d None (Some Changed)) (f x) (f y)
        go (yes e) = tt
        go (no e) = (given x, given y)

    marked-unlike : (p q : Maybe A) (mark : Mark) → mark_of eq p q ≡ Some mark → maybe f p ≡ maybe f q → ⊥
    marked-unlike none none mark e h = let z : ◌≡◌ {A = ℕ} 0 1 = cc in omega arith
    marked-unlike (some x) none mark e h = given x h
    marked-unlike none (some y) mark e h = given y (sym h)
    marked-unlike (some x) (some y) mark e h = self-unmarked (some x) mark (ap (λ (z : A). mark_of eq (some x) (some z)) (same x y h) ∙ e)

number-unlike : (p q : Maybe ℕ) (mark : Mark) → mark_of ℕ_discrete p q ≡ Some mark → maybe number p ≡ maybe number q → ⊥
number-unlike = marked-unlike ℕ_discrete number (λ a b e. cc) (λ a e. let z : ◌≡◌ {A = ℕ} 0 1 = cc in omega arith)

number-seen : (p q : Maybe ℕ) → MarkedIf (mark_of ℕ_discrete p q) (maybe number p) (maybe number q)
number-seen = mark-seen ℕ_discrete number (λ a b e. cc) (λ a e. let z : ◌≡◌ {A = ℕ} 0 1 = cc in omega arith)

entry-unlike : (p q : Maybe Entry) (mark : Mark) → mark_of Entry-discrete p q ≡ Some mark → maybe entry p ≡ maybe entry q → ⊥
entry-unlike = marked-unlike Entry-discrete entry (λ a b e. cc) (λ a e. let z : ◌≡◌ {A = ℕ} 0 1 = cc in omega arith)

entry_seen : (p q : Maybe Entry) → MarkedIf (mark_of Entry-discrete p q) (maybe entry p) (maybe entry q)
entry_seen = mark-seen Entry-discrete entry (λ a b e. cc) (λ a e. let z : ◌≡◌ {A = ℕ} 0 1 = cc in omega arith)

pair-unlike : (p q : Maybe Pair) (mark : Mark) → mark_of Pair-discrete p q ≡ Some mark → maybe pair p ≡ maybe pair q → ⊥
pair-unlike = marked-unlike Pair-discrete pair (λ a b e. cc) (λ a e. let z : ◌≡◌ {A = ℕ} 0 1 = cc in omega arith)

pair-seen : (p q : Maybe Pair) → MarkedIf (mark_of Pair-discrete p q) (maybe pair p) (maybe pair q)
pair-seen = mark-seen Pair-discrete pair (λ a b e. cc) (λ a e. let z : ◌≡◌ {A = ℕ} 0 1 = cc in omega arith)

act-alike : (p q : Maybe Action) → maybe act p ≡ maybe act q → p ≡ q
act-alike none none e = refl
act-alike (some x) none e = let z : ◌≡◌ {A = ℕ} 0 1 = cc in absurd (omega arith)
act-alike none (some y) e = let z : ◌≡◌ {A = ℕ} 0 1 = cc in absurd (omega arith)
act-alike (some x) (some y) e = cc

lists-unlike : (xs ys : List Action) (mark : Mark) → mark_of list-discrete (some_list xs) (some_list ys) ≡ Some mark
    → ((k : ℕ) → maybe act (get_elem? xs k) ≡ maybe act (get_elem? ys k)) → ⊥
lists-unlike xs ys mark e h =
    let q : xs ≡ ys = elem-ext xs ys (λ k. act-alike (get_elem? xs k) (get_elem? ys k) (h k)) in
    self-unmarked list-discrete (some_list xs) mark (ap (λ (l : List Action). mark_of list-discrete (some_list xs) (some_list l)) q ∙ e)

-- a list's first action stands for it
lists-seen : (xs ys : List Action) → MarkedIf (mark_of list-discrete (some_list xs) (some_list ys)) (maybe act (get_elem? xs 0)) (maybe act (get_elem? ys 0))
lists-seen [] [] = tt
lists-seen (x ∷ xs) [] = ((λ e. let z : ◌≡◌ {A = ℕ} 0 1 = cc in omega arith), refl)
lists-seen [] (y ∷ ys) = (refl, λ e. let z : ◌≡◌ {A = ℕ} 0 1 = cc in omega arith)
lists-seen (x ∷ xs) (y ∷ ys) = go (list-discrete (x ∷ xs) (y ∷ ys))
  where
    go : (d : Dec ((x ∷ xs) ≡ (y ∷ ys))) → MarkedIf (ite d None (Some Changed)) (act x) (act y)
    go (yes e) = tt
    go (no e) = ((λ e. let z : ◌≡◌ {A = ℕ} 0 1 = cc in omega arith), λ e. let z : ◌≡◌ {A = ℕ} 0 1 = cc in omega arith)

-- ---- lists of differences

module _ (m m' : Meaning) (d : Direction) where
  told : (a : Aspect) (x y : ℕ) (o : Option Mark) → MarkedIf o (ask m (along d (named_part a x y))) (ask m' (along d (named_part a x y)))
      → ((mark : Mark) → o ≡ Some mark → AllAlike a m m' d x y → ⊥) → ZeroUnused a x y → All (Founded m m') (noted d a x y o)
  told a x y None s h u = tt
  told a x y (Some mark) s h u = (record { marked = s; unlike = h mark refl; unused = u }, tt)

  sizes_of : Maybe Machine → Answer
  sizes_of = maybe (λ (x : Machine). both x.rows x.classes)

  class_of : ℕ → Maybe Machine → Answer
  class_of g = maybe (λ (x : Machine). maybe number (get_elem? x.columns g))

  cell_in : ℕ → ℕ → Maybe Machine → Answer
  cell_in r c = maybe (λ (x : Machine). maybe entry (cell_of x r c))

  module _ (p q : Maybe Machine) (ep : (side_of d m).machine ≡ p) (eq : (side_of d m').machine ≡ q) where
    -- a mark of the machines' answers
    sizes-seen : (o : Option Mark) → MarkedIf o (sizes_of p) (sizes_of q) → MarkedIf o (ask m (along d sizes)) (ask m' (along d sizes))
    unfolding ask ask_side sizes_of
    sizes-seen o = seen_by o _ _ _ _ (ap sizes_of ep) (ap sizes_of eq)

    class-seen : (g : ℕ) (o : Option Mark) → MarkedIf o (class_of g p) (class_of g q) → MarkedIf o (ask m (along d (class g))) (ask m' (along d (class g)))
    unfolding ask ask_side class_of
    class-seen g o = seen_by o _ _ _ _ (ap (class_of g) ep) (ap (class_of g) eq)

    cell-seen : (r c : ℕ) (o : Option Mark) → MarkedIf o (cell_in r c p) (cell_in r c q) → MarkedIf o (ask m (along d (cell r c))) (ask m' (along d (cell r c)))
    unfolding ask ask_side cell_in
    cell-seen r c o = seen_by o _ _ _ _ (ap (cell_in r c) ep) (ap (cell_in r c) eq)

    -- answers of the machines, where they are alike
    sizes-alike : AllAlike Sizes m m' d 0 0 → sizes_of p ≡ sizes_of q
    unfolding ask ask_side sizes_of
    sizes-alike h = ap sizes_of (sym ep) ∙ h ∙ ap sizes_of eq

    class-alike : (g : ℕ) → AllAlike Class m m' d g 0 → class_of g p ≡ class_of g q
    unfolding ask ask_side class_of
    class-alike g h = ap (class_of g) (sym ep) ∙ h ∙ ap (class_of g) eq

    cell-alike : (r c : ℕ) → AllAlike Cell m m' d r c → cell_in r c p ≡ cell_in r c q
    unfolding ask ask_side cell_in
    cell-alike r c h = ap (cell_in r c) (sym ep) ∙ h ∙ ap (cell_in r c) eq

  sizes-apart : (a b : Machine) → (eqb a.rows b.rows && eqb a.classes b.classes) ≡ false → sizes_of (some a) ≡ sizes_of (some b) → ⊥
  unfolding sizes_of
  sizes-apart a b f e =
      let r : a.rows ≡ b.rows = cc in
      let c : a.classes ≡ b.classes = cc in
      let t : true ≡ false = sym (ap₂ (λ (x y : Bool). x && y) (eq-eqb a.rows b.rows r) (eq-eqb a.classes b.classes c)) ∙ f in
      let z : ◌≡◌ {A = ℕ} 1 0 = ap (λ (x : Bool). cond x 1 0) t in
      omega arith

  some-sizes : (a : Machine) → sizes_of (some a) ≡ nothing → ⊥
  unfolding sizes_of
  some-sizes a e = let z : ◌≡◌ {A = ℕ} 0 1 = cc in omega arith

  sizes-told : (p q : Maybe Machine) → (side_of d m).machine ≡ p → (side_of d m').machine ≡ q → (mark : Mark) → Marked mark (sizes_of p) (sizes_of q)
      → (sizes_of p ≡ sizes_of q → ⊥) → All (Founded m m') (noted d Sizes 0 0 (Some mark))
  sizes-told p q ep eq mark w k =
      told Sizes 0 0 (Some mark) (sizes-seen p q ep eq (Some mark) w) (λ mark e h. k (sizes-alike p q ep eq h)) (refl, refl)

  machines-told : (n : ℕ) (p q : Maybe Machine) → (side_of d m).machine ≡ p → (side_of d m').machine ≡ q → All (Founded m m') (machines_differ d n p q)
  unfolding classes_differ cells_differ sizes_of class_of cell_in
  machines-told n none none ep eq = tt
  machines-told n (some a) none ep eq = sizes-told (some a) none ep eq OnlyFirst (some-sizes a, refl) (some-sizes a)
  machines-told n none (some b) ep eq = sizes-told none (some b) ep eq OnlySecond (refl, some-sizes b) (λ e. some-sizes b (sym e))
  machines-told n (some a) (some b) ep eq = go (eqb a.rows b.rows && eqb a.classes b.classes) refl
    where
      go : (t : Bool) → (eqb a.rows b.rows && eqb a.classes b.classes) ≡ t
          → All (Founded m m') (cond t (classes_differ d n a b ++ cells_differ d a b) (noted d Sizes 0 0 (Some Changed)))
      go true t =
          all_append (Founded m m') (classes_differ d n a b) (cells_differ d a b)
          (all-through (Founded m m') (λ g. noted d Class g 0 (mark_of ℕ_discrete (get_elem? a.columns g) (get_elem? b.columns g))) n 0
          (λ g l k. told Class g 0 (mark_of ℕ_discrete (get_elem? a.columns g) (get_elem? b.columns g))
          (class-seen (some a) (some b) ep eq g (mark_of ℕ_discrete (get_elem? a.columns g) (get_elem? b.columns g)) (number-seen (get_elem? a.columns g) (get_elem? b.columns g)))
          (λ mark e h. number-unlike (get_elem? a.columns g) (get_elem? b.columns g) mark e (class-alike (some a) (some b) ep eq g h)) refl))
          (all-through (Founded m m') (λ r. through (λ c. noted d Cell r c (mark_of Entry-discrete (cell_of a r c) (cell_of b r c))) a.classes 0) a.rows 0
          (λ r l k. all-through (Founded m m') (λ c. noted d Cell r c (mark_of Entry-discrete (cell_of a r c) (cell_of b r c))) a.classes 0
          (λ c i j. told Cell r c (mark_of Entry-discrete (cell_of a r c) (cell_of b r c))
          (cell-seen (some a) (some b) ep eq r c (mark_of Entry-discrete (cell_of a r c) (cell_of b r c)) (entry_seen (cell_of a r c) (cell_of b r c)))
          (λ mark e h. entry-unlike (cell_of a r c) (cell_of b r c) mark e (cell-alike (some a) (some b) ep eq r c h)) tt)))
      go false t = sizes-told (some a) (some b) ep eq Changed (some-sizes a, some-sizes b) (sizes-apart a b t)

  side-told : (n : ℕ) → All (Founded m m') (sides_differ d n (side_of d m) (side_of d m'))
  unfolding sides_differ widths_differ records_differ lists_differ ask ask_side
  side-told n =
      let a : Side = side_of d m in
      let b : Side = side_of d m' in
      all_append (Founded m m') (machines_differ d n a.machine b.machine) (widths_differ d n a b ++ lists_differ d n a b) (machines-told n a.machine b.machine refl refl)
      (all_append (Founded m m') (widths_differ d n a b) (lists_differ d n a b)
      (all-through (Founded m m') (λ g. records_differ d g (get_or a.clusters g []) (get_or b.clusters g [])) n 0
      (λ g l k. all-through (Founded m m') (record_differs d g (get_or a.clusters g []) (get_or b.clusters g [])) 128 0
      (λ c i j. told Width g c (mark_of Pair-discrete (record_of c (get_or a.clusters g [])) (record_of c (get_or b.clusters g [])))
      (pair-seen (record_of c (get_or a.clusters g [])) (record_of c (get_or b.clusters g [])))
      (λ mark e h. pair-unlike (record_of c (get_or a.clusters g [])) (record_of c (get_or b.clusters g [])) mark e h) tt)))
      (all-through (Founded m m') (λ g. list_differs d g (get_or a.lists g []) (get_or b.lists g [])) n 0
      (λ g l k. told Actions g 0 (mark_of list-discrete (some_list (get_or a.lists g [])) (some_list (get_or b.lists g [])))
      (lists-seen (get_or a.lists g []) (get_or b.lists g []))
      (λ mark e h. lists-unlike (get_or a.lists g []) (get_or b.lists g []) mark e h) refl)))

pub all_told : (m m' : Meaning) → All (Founded m m') (differences m m')
unfolding differences
all_told m m' =
    all_append (Founded m m') (sides_differ Horizontal m.glyphs m.horizontal m'.horizontal) (sides_differ Vertical m.glyphs m.vertical m'.vertical)
    (side-told m m' Horizontal m.glyphs) (side-told m m' Vertical m.glyphs)
