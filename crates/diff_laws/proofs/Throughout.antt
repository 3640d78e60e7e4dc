-- What holds of each difference that may be noted at a place of a direction holds of each that is listed.
use Prim.Native.Nat.{ℕ, zero, suc, ◌+◌, ◌≤◌, ◌<◌}
use mathlib.Core.Bool.{Bool, true, false, cond, ◌&&◌}
use mathlib.Core.Option.{Option as Maybe, none, some}
use Rattle.std.specs.Prelude.{Option, None, Some}
use mathlib.Core.List.{List, [], ◌++◌}
use native.Mathlib.Decide.{ℕ_discrete}
use native.Mathlib.Omega.{arith}
use lib.Dec.{eqb}
use lib.ListN.{get_or, get_elem?}
use Rattle.encoding.specs.Codes.{All}
use Rattle.encoding.proofs.ListLaws.{all_append}
use Rattle.types.specs.declared.Direction.{Direction}
use Rattle.meaning.specs.Meaning.{Machine, Side}
use Rattle.meaning.specs.Ask.{cell_of, record_of}
use Rattle.meaning.specs.Discrete.{Entry-discrete, Pair-discrete, list-discrete}
use Rattle.diff_rule.specs.declared.Aspect.{Aspect}
use Rattle.diff_rule.specs.declared.Aspect.TheVariants.{Sizes, Class, Cell, Width, Actions}
use Rattle.diff_rule.specs.declared.Mark.{Mark}
use Rattle.diff_rule.specs.declared.Mark.TheVariants.{Changed, OnlyFirst, OnlySecond}
use Rattle.diff_rule.specs.declared.Difference.{Difference}
use Rattle.diff_rule.specs.Differences.{mark_of, noted, through, classes_differ, cells_differ, machines_differ, record_differs, records_differ, widths_differ, some_list, list_differs, lists_differ, sides_differ}

module _ (P : Difference → Type 0) where
  pub all-through : (f : ℕ → List Difference) (n i : ℕ) → ((k : ℕ) → i ≤ k → k < i + n → All P (f k)) → All P (through f n i)
  unfolding through
  all-through f zero i h = tt
  all-through f (suc n) i h =
      all_append P (f i) (through f n (suc i)) (h i (omega arith) (omega arith)) (all-through f n (suc i) (λ k a b. h k (omega arith) (omega arith)))

  all_noted : (d : Direction) (a : Aspect) (x y : ℕ) (o : Option Mark)
      → ((mark : Mark) → P (record { direction = d; aspect = a; mark = mark; subject = x; class = y })) → All P (noted d a x y o)
  all_noted d a x y None h = tt
  all_noted d a x y (Some mark) h = (h mark, tt)

  module _ (d : Direction) (n : ℕ) where
    pub of-glyphs : (a b : Side)
        → ((mark : Mark) (g c : ℕ) → g < n → c < 128 → P (record { direction = d; aspect = Width; mark = mark; subject = g; class = c }))
        → ((mark : Mark) (g : ℕ) → g < n → P (record { direction = d; aspect = Actions; mark = mark; subject = g; class = 0 }))
        → All P (widths_differ d n a b ++ lists_differ d n a b)
    unfolding widths_differ records_differ lists_differ
    of-glyphs a b width action =
        all_append P (widths_differ d n a b) (lists_differ d n a b)
        (all-through (λ g. records_differ d g (get_or a.clusters g []) (get_or b.clusters g [])) n 0
        (λ g l k. all-through (record_differs d g (get_or a.clusters g []) (get_or b.clusters g [])) 128 0
        (λ c i j. all_noted d Width g c (mark_of Pair-discrete (record_of c (get_or a.clusters g [])) (record_of c (get_or b.clusters g [])))
        (λ mark. width mark g c (omega arith) (omega arith)))))
        (all-through (λ g. list_differs d g (get_or a.lists g []) (get_or b.lists g [])) n 0
        (λ g l k. all_noted d Actions g 0 (mark_of list-discrete (some_list (get_or a.lists g [])) (some_list (get_or b.lists g [])))
        (λ mark. action mark g (omega arith))))

    of_parts : (a b : Machine)
        → ((mark : Mark) (g : ℕ) → g < n → P (record { direction = d; aspect = Class; mark = mark; subject = g; class = 0 }))
        → ((mark : Mark) (r c : ℕ) → r < a.rows → c < a.classes → P (record { direction = d; aspect = Cell; mark = mark; subject = r; class = c }))
        → All P (classes_differ d n a b ++ cells_differ d a b)
    unfolding classes_differ cells_differ
    of_parts a b class cell =
        all_append P (classes_differ d n a b) (cells_differ d a b)
        (all-through (λ g. noted d Class g 0 (mark_of ℕ_discrete (get_elem? a.columns g) (get_elem? b.columns g))) n 0
        (λ g l k. all_noted d Class g 0 (mark_of ℕ_discrete (get_elem? a.columns g) (get_elem? b.columns g)) (λ mark. class mark g (omega arith))))
        (all-through (λ r. through (λ c. noted d Cell r c (mark_of Entry-discrete (cell_of a r c) (cell_of b r c))) a.classes 0) a.rows 0
        (λ r l k. all-through (λ c. noted d Cell r c (mark_of Entry-discrete (cell_of a r c) (cell_of b r c))) a.classes 0
        (λ c i j. all_noted d Cell r c (mark_of Entry-discrete (cell_of a r c) (cell_of b r c)) (λ mark. cell mark r c (omega arith) (omega arith)))))

    -- the cells of the first machine, if there is one
    abbrev pub EachCell : Maybe Machine → Type 0
    EachCell none = Unit {0}
    EachCell (some a) = (mark : Mark) (r c : ℕ) → r < a.rows → c < a.classes → P (record { direction = d; aspect = Cell; mark = mark; subject = r; class = c })

    of-machines : (p q : Maybe Machine)
        → ((mark : Mark) → P (record { direction = d; aspect = Sizes; mark = mark; subject = 0; class = 0 }))
        → ((mark : Mark) (g : ℕ) → g < n → P (record { direction = d; aspect = Class; mark = mark; subject = g; class = 0 }))
        → EachCell p → All P (machines_differ d n p q)
    of-machines none none size class cell = tt
    of-machines (some a) none size class cell = (size OnlyFirst, tt)
    of-machines none (some b) size class cell = (size OnlySecond, tt)
    of-machines (some a) (some b) size class cell = go (eqb a.rows b.rows && eqb a.classes b.classes)
      where
        go : (t : Bool) → All P (cond t (classes_differ d n a b ++ cells_differ d a b) (noted d Sizes 0 0 (Some Changed)))
        go true = of_parts a b class cell
        go false = (size Changed, tt)

    pub of-side : (a b : Side)
        → ((mark : Mark) → P (record { direction = d; aspect = Sizes; mark = mark; subject = 0; class = 0 }))
        → ((mark : Mark) (g : ℕ) → g < n → P (record { direction = d; aspect = Class; mark = mark; subject = g; class = 0 }))
        → EachCell a.machine
        → ((mark : Mark) (g c : ℕ) → g < n → c < 128 → P (record { direction = d; aspect = Width; mark = mark; subject = g; class = c }))
        → ((mark : Mark) (g : ℕ) → g < n → P (record { direction = d; aspect = Actions; mark = mark; subject = g; class = 0 }))
        → All P (sides_differ d n a b)
    unfolding sides_differ
    of-side a b size class cell width action =
        all_append P (machines_differ d n a.machine b.machine) (widths_differ d n a b ++ lists_differ d n a b)
        (of-machines a.machine b.machine size class cell) (of-glyphs a b width action)
