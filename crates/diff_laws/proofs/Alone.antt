-- Of machines of unlike sizes, neither a class nor a cell is listed.
use Prim.Native.Nat.{ℕ}
use mathlib.Core.Path.{◌≡◌, refl, ap, ap₂}
use mathlib.Core.Bool.{Bool, true, false, cond, ◌&&◌}
use mathlib.Core.Option.{Option, none, some}
use Rattle.std.specs.Prelude.{Some}
use mathlib.Core.List.{◌++◌}
use native.Mathlib.Omega.{arith}
use lib.Dec.{eqb}
use borrow.Author.Tests.{eqb-true}
use Rattle.encoding.specs.Codes.{All}
use Rattle.encoding.proofs.ListLaws.{all_append, all_map}
use Rattle.types.specs.declared.Direction.{Direction}
use Rattle.types.specs.declared.Direction.TheVariants.{Horizontal, Vertical}
use Rattle.meaning.specs.Meaning.{Machine, Side, Meaning}
use Rattle.meaning.specs.Ask.{sizes, class, cell, both, maybe, ask_side, ask}
use Rattle.diff_rule.specs.declared.Aspect.TheVariants.{Sizes, Class, Cell}
use Rattle.diff_rule.specs.declared.Mark.{Mark}
use Rattle.diff_rule.specs.declared.Mark.TheVariants.{Changed, OnlyFirst, OnlySecond}
use Rattle.diff_rule.specs.declared.Difference.{Difference}
use Rattle.diff_rule.specs.Differences.{noted, classes_differ, cells_differ, machines_differ, widths_differ, lists_differ, sides_differ, differences}
use Rattle.diff_rule.specs.Order.{direction_number, aspect_number}
use Rattle.diff_rule.proofs.Empty as empty
use Rattle.diff_laws.specs.Unlike.{SameAnswer, Names, Unnamed}
use Rattle.diff_laws.proofs.Throughout.{of-glyphs, EachCell, of-side}

-- a difference of a direction is of no class and of no cell
abbrev Aside : Direction → Difference → Type 0
Aside d x = x.direction ≡ d → (x.aspect ≡ Class → ⊥) × (x.aspect ≡ Cell → ⊥)

module _ (n : ℕ) (d : Direction) where
  sizes-aside : (mark : Mark) → Aside d (record { direction = d; aspect = Sizes; mark = mark; subject = 0; class = 0 })
  sizes-aside mark e =
      ((λ e. let z : ◌≡◌ {A = ℕ} 0 1 = ap aspect_number e in omega arith), λ e. let z : ◌≡◌ {A = ℕ} 0 2 = ap aspect_number e in omega arith)

  machines-aside : (p q : Option Machine)
      → (maybe (λ (x : Machine). both x.rows x.classes) p ≡ maybe (λ (x : Machine). both x.rows x.classes) q → ⊥)
      → All (Aside d) (machines_differ d n p q)
  machines-aside none none k = absurd (k refl)
  machines-aside (some a) none k = (sizes-aside OnlyFirst, tt)
  machines-aside none (some b) k = (sizes-aside OnlySecond, tt)
  machines-aside (some a) (some b) k = go (eqb a.rows b.rows && eqb a.classes b.classes) refl
    where
      go : (t : Bool) → (eqb a.rows b.rows && eqb a.classes b.classes) ≡ t
          → All (Aside d) (cond t (classes_differ d n a b ++ cells_differ d a b) (noted d Sizes 0 0 (Some Changed)))
      go true t =
          let s = empty.both (eqb a.rows b.rows) (eqb a.classes b.classes) t in
          absurd (k (ap₂ both (eqb-true a.rows b.rows s.0) (eqb-true a.classes b.classes s.1)))
      go false t = (sizes-aside Changed, tt)

  side-aside : (a b : Side) → (ask_side a sizes ≡ ask_side b sizes → ⊥) → All (Aside d) (sides_differ d n a b)
  unfolding sides_differ ask_side
  side-aside a b k =
      all_append (Aside d) (machines_differ d n a.machine b.machine) (widths_differ d n a b ++ lists_differ d n a b)
      (machines-aside a.machine b.machine k)
      (of-glyphs (Aside d) d n a b
      (λ mark g c l i e. ((λ e. let z : ◌≡◌ {A = ℕ} 3 1 = ap aspect_number e in omega arith), λ e. let z : ◌≡◌ {A = ℕ} 3 2 = ap aspect_number e in omega arith))
      (λ mark g l e. ((λ e. let z : ◌≡◌ {A = ℕ} 4 1 = ap aspect_number e in omega arith), λ e. let z : ◌≡◌ {A = ℕ} 4 2 = ap aspect_number e in omega arith)))

-- differences of the other direction
other-side : (n : ℕ) (d d' : Direction) → (d ≡ d' → ⊥) → (a b : Side) → All (Aside d') (sides_differ d n a b)
other-side n d d' k a b =
    of-side (Aside d') d n a b (λ mark e. absurd (k e)) (λ mark g l e. absurd (k e)) (cells a.machine) (λ mark g c l i e. absurd (k e)) (λ mark g l e. absurd (k e))
  where
    cells : (p : Option Machine) → EachCell (Aside d') d n p
    cells none = tt
    cells (some x) = λ mark r c l i e. absurd (k e)

module _ (m m' : Meaning) where
  aside : (d : Direction) → (SameAnswer m m' d sizes → ⊥) → All (Aside d) (differences m m')
  unfolding differences ask
  aside Horizontal k =
      all_append (Aside Horizontal) (sides_differ Horizontal m.glyphs m.horizontal m'.horizontal) (sides_differ Vertical m.glyphs m.vertical m'.vertical)
      (side-aside m.glyphs Horizontal m.horizontal m'.horizontal k)
      (other-side m.glyphs Vertical Horizontal (λ e. let z : ◌≡◌ {A = ℕ} 1 0 = ap direction_number e in omega arith) m.vertical m'.vertical)
  aside Vertical k =
      all_append (Aside Vertical) (sides_differ Horizontal m.glyphs m.horizontal m'.horizontal) (sides_differ Vertical m.glyphs m.vertical m'.vertical)
      (other-side m.glyphs Horizontal Vertical (λ e. let z : ◌≡◌ {A = ℕ} 0 1 = ap direction_number e in omega arith) m.horizontal m'.horizontal)
      (side-aside m.glyphs Vertical m.vertical m'.vertical k)

  pub alone : (d : Direction) → (SameAnswer m m' d sizes → ⊥) → (g r c : ℕ) → Unnamed d (class g) (differences m m') × Unnamed d (cell r c) (differences m m')
  alone d k g r c = (
    all_map (Aside d) (λ (x : Difference). Names d (class g) x → ⊥) (λ x w z. (w z.0).0 z.1) (differences m m') (aside d k),
    all_map (Aside d) (λ (x : Difference). Names d (cell r c) x → ⊥) (λ x w z. (w z.0).1 z.1) (differences m m') (aside d k),
  )
