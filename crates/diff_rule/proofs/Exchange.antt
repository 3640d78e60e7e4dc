-- Where the two tables are exchanged, the list is the same but that its marks are exchanged.
use Prim.Native.Nat.{ℕ}
use mathlib.Core.Path.{◌≡◌, refl, sym, ap, ap₂, ◌∙◌}
use mathlib.Core.Bool.{Bool, true, false, cond, ◌&&◌}
use mathlib.Core.Logic.{ite}
use mathlib.Core.Option.{Option as Maybe, none, some}
use Rattle.std.specs.Prelude.{Option, None, Some}
use mathlib.Core.List.{List, [], ◌++◌, map, map-append}
use native.Mathlib.Decide.{ℕ_discrete}
use lib.Dec.{eqb}
use lib.ListN.{get_or, get_elem?}
use borrow.Author.Tests.{eqb-true, eq-eqb, ne_eqb}
use Rattle.types.specs.declared.Direction.{Direction}
use Rattle.types.specs.declared.Direction.TheVariants.{Horizontal, Vertical}
use Rattle.types.specs.declared.Pair.{Pair}
use Rattle.meaning.specs.Meaning.{Machine, Side, Meaning}
use Rattle.meaning.specs.Ask.{cell_of, record_of}
use Rattle.meaning.specs.Discrete.{Entry-discrete, Pair-discrete, list-discrete}
use Rattle.diff_rule.specs.declared.Aspect.{Aspect}
use Rattle.diff_rule.specs.declared.Aspect.TheVariants.{Sizes, Class, Cell, Width, Actions}
use Rattle.diff_rule.specs.declared.Mark.{Mark}
use Rattle.diff_rule.specs.declared.Mark.TheVariants.{Changed}
use Rattle.diff_rule.specs.declared.Difference.{Difference}
use Rattle.diff_rule.specs.Differences.{mark_of, noted, through, classes_differ, cells_differ, machines_differ, record_differs, records_differ, widths_differ, some_list, list_differs, lists_differ, sides_differ, differences}
use Rattle.diff_rule.specs.Exchange.{exchanged, other_way}
use Rattle.diff_rule.proofs.Again.{through-map}
use Rattle.diff_rule.proofs.Empty.{both}
use Rattle.diff_rule.proofs.Through.{through_same}

-- ---- one place

module _ {A : Type 0} (eq : Discrete A) where
  other-mark : (x y : Maybe A) → mark_of eq y x ≡ other_way (mark_of eq x y)
  other-mark none none = refl
  other-mark (some x) none = refl
  other-mark none (some y) = refl
  other-mark (some x) (some y) = go (eq y x) (eq x y)
    where
      go : (p : Dec (y ≡ x)) (q : Dec (x ≡ y)) → ite p None (Some Changed) ≡ other_way (ite q None (Some Changed))
      go (yes p) (yes q) = refl
      go (yes p) (no q) = absurd (q (sym p))
      go (no p) (yes q) = absurd (p (sym q))
      go (no p) (no q) = refl

other-noted : (d : Direction) (a : Aspect) (x y : ℕ) (o : Option Mark) → noted d a x y (other_way o) ≡ map exchanged (noted d a x y o)
other-noted d a x y None = refl
other-noted d a x y (Some m) = refl

module _ {A : Type 0} (eq : Discrete A) (d : Direction) (a : Aspect) where
  other_place : (x y : ℕ) (p q : Maybe A) → noted d a x y (mark_of eq q p) ≡ map exchanged (noted d a x y (mark_of eq p q))
  other_place x y p q = ap (noted d a x y) (other-mark eq p q) ∙ other-noted d a x y (mark_of eq p q)

-- places one after the other
other-places : (f f' : ℕ → List Difference) → ((k : ℕ) → f' k ≡ map exchanged (f k)) → (n i : ℕ) → through f' n i ≡ map exchanged (through f n i)
other-places f f' h n i = through_same f' (λ k. map exchanged (f k)) n i (λ k a b. h k) ∙ sym (through-map exchanged f n i)

-- ---- the parts

same_test : (x y : ℕ) → eqb y x ≡ eqb x y
same_test x y = go (ℕ_discrete x y)
  where
    go : Dec (x ≡ y) → eqb y x ≡ eqb x y
    go (yes p) = eq-eqb y x (sym p) ∙ sym (eq-eqb x y p)
    go (no p) = ne_eqb y x (λ e. p (sym e)) ∙ sym (ne_eqb x y p)

module _ (d : Direction) (n : ℕ) where
  other-classes : (a b : Machine) → classes_differ d n b a ≡ map exchanged (classes_differ d n a b)
  unfolding classes_differ
  other-classes a b =
      other-places (λ g. noted d Class g 0 (mark_of ℕ_discrete (get_elem? a.columns g) (get_elem? b.columns g)))
      (λ g. noted d Class g 0 (mark_of ℕ_discrete (get_elem? b.columns g) (get_elem? a.columns g)))
      (λ g. other_place ℕ_discrete d Class g 0 (get_elem? a.columns g) (get_elem? b.columns g)) n 0

  row : (a b : Machine) (classes r : ℕ) → List Difference
  row a b classes r = through (λ c. noted d Cell r c (mark_of Entry-discrete (cell_of a r c) (cell_of b r c))) classes 0

  other_row : (a b : Machine) (classes r : ℕ) → row b a classes r ≡ map exchanged (row a b classes r)
  unfolding row
  other_row a b classes r =
      other-places (λ c. noted d Cell r c (mark_of Entry-discrete (cell_of a r c) (cell_of b r c)))
      (λ c. noted d Cell r c (mark_of Entry-discrete (cell_of b r c) (cell_of a r c)))
      (λ c. other_place Entry-discrete d Cell r c (cell_of a r c) (cell_of b r c)) classes 0

  other-cells : (a b : Machine) → a.rows ≡ b.rows → a.classes ≡ b.classes → cells_differ d b a ≡ map exchanged (cells_differ d a b)
  unfolding cells_differ row
  other-cells a b er ec =
      ap₂ (λ (rows classes : ℕ). through (row b a classes) rows 0) (sym er) (sym ec)
      ∙ other-places (row a b a.classes) (row b a a.classes) (λ r. other_row a b a.classes r) a.rows 0

  other-machines : (a b : Maybe Machine) → machines_differ d n b a ≡ map exchanged (machines_differ d n a b)
  other-machines none none = refl
  other-machines (some a) none = refl
  other-machines none (some b) = refl
  other-machines (some a) (some b) =
      ap₂ (λ (p q : Bool). cond (p && q) (classes_differ d n b a ++ cells_differ d b a) (noted d Sizes 0 0 (Some Changed))) (same_test a.rows b.rows) (same_test a.classes b.classes)
      ∙ go (eqb a.rows b.rows && eqb a.classes b.classes) refl
    where
      go : (q : Bool) → (eqb a.rows b.rows && eqb a.classes b.classes) ≡ q
          → cond q (classes_differ d n b a ++ cells_differ d b a) (noted d Sizes 0 0 (Some Changed))
          ≡ map exchanged (cond q (classes_differ d n a b ++ cells_differ d a b) (noted d Sizes 0 0 (Some Changed)))
      go true t =
          let s = both (eqb a.rows b.rows) (eqb a.classes b.classes) t in
          ap₂ (λ (x y : List Difference). x ++ y) (other-classes a b) (other-cells a b (eqb-true _ _ s.0) (eqb-true _ _ s.1))
          ∙ sym (map-append exchanged (classes_differ d n a b) (cells_differ d a b))
      go false t = refl

  other-records : (g : ℕ) (ps qs : List Pair) → records_differ d g qs ps ≡ map exchanged (records_differ d g ps qs)
  unfolding records_differ
  other-records g ps qs =
      other-places (record_differs d g ps qs) (record_differs d g qs ps) (λ c. other_place Pair-discrete d Width g c (record_of c ps) (record_of c qs)) 128 0

  other-widths : (a b : Side) → widths_differ d n b a ≡ map exchanged (widths_differ d n a b)
  unfolding widths_differ
  other-widths a b =
      other-places (λ g. records_differ d g (get_or a.clusters g []) (get_or b.clusters g [])) (λ g. records_differ d g (get_or b.clusters g []) (get_or a.clusters g []))
      (λ g. other-records g (get_or a.clusters g []) (get_or b.clusters g [])) n 0

  other-lists : (a b : Side) → lists_differ d n b a ≡ map exchanged (lists_differ d n a b)
  unfolding lists_differ
  other-lists a b =
      other-places (λ g. list_differs d g (get_or a.lists g []) (get_or b.lists g [])) (λ g. list_differs d g (get_or b.lists g []) (get_or a.lists g []))
      (λ g. other_place list-discrete d Actions g 0 (some_list (get_or a.lists g [])) (some_list (get_or b.lists g []))) n 0

  other-side : (a b : Side) → sides_differ d n b a ≡ map exchanged (sides_differ d n a b)
  unfolding sides_differ
  other-side a b =
      let xs : List Difference = machines_differ d n a.machine b.machine in
      let ys : List Difference = widths_differ d n a b in
      let zs : List Difference = lists_differ d n a b in
      ap₂ (λ (x y : List Difference). x ++ y) (other-machines a.machine b.machine)
      (ap₂ (λ (x y : List Difference). x ++ y) (other-widths a b) (other-lists a b) ∙ sym (map-append exchanged ys zs))
      ∙ sym (map-append exchanged xs (ys ++ zs))

pub exchange : (m m' : Meaning) → m.glyphs ≡ m'.glyphs → differences m' m ≡ map exchanged (differences m m')
unfolding differences
exchange m m' e =
    let n : ℕ = m.glyphs in
    ap (λ (k : ℕ). sides_differ Horizontal k m'.horizontal m.horizontal ++ sides_differ Vertical k m'.vertical m.vertical) (sym e)
    ∙ ap₂ (λ (x y : List Difference). x ++ y) (other-side Horizontal n m.horizontal m'.horizontal) (other-side Vertical n m.vertical m'.vertical)
    ∙ sym (map-append exchanged (sides_differ Horizontal n m.horizontal m'.horizontal) (sides_differ Vertical n m.vertical m'.vertical))
