-- The differences of two meanings with one glyph count (document 02, 6/14): horizontal, then vertical; in each the machine sizes, the class of each glyph, the
-- cells row by row, the width records by glyph and class, the action lists by glyph. What is the same in both is not listed.
use Rattle.std.specs.Prelude.{ℕ, zero, suc, cond, ◌&&◌, List, [], ◌∷◌, ◌++◌, eqb, get_or, Option, None, Some}
use Rattle.std.proofs.Math.Logic.{ite}
use Rattle.std.proofs.Math.Option.{Option as Maybe, none, some}
use Rattle.std.proofs.Math.Decide.{ℕ_discrete}
use Rattle.std.proofs.Math.ListN.{get_elem?}
use Rattle.types.specs.declared.Direction.{Direction}
use Rattle.types.specs.declared.Pair.{Pair}
use Rattle.types.specs.declared.Direction.TheVariants.{Horizontal, Vertical}
use Rattle.meaning.specs.Meaning.{Machine, Action, Side, Meaning}
use Rattle.meaning.specs.Ask.{cell_of, record_of}
use Rattle.meaning.specs.Discrete.{Entry-discrete, Pair-discrete, list-discrete}
use Rattle.diff_rule.specs.declared.Aspect.{Aspect}
use Rattle.diff_rule.specs.declared.Aspect.TheVariants.{Sizes, Class, Cell, Width, Actions}
use Rattle.diff_rule.specs.declared.Mark.{Mark}
use Rattle.diff_rule.specs.declared.Mark.TheVariants.{Changed, OnlyFirst, OnlySecond}
use Rattle.diff_rule.specs.declared.Difference.{Difference}

-- how two parts differ, or none where they are the same
abbrev pub mark_of : {A : Type 0} → Discrete A → Maybe A → Maybe A → Option Mark
mark_of eq none none = None
mark_of eq (some x) none = Some OnlyFirst
mark_of eq none (some y) = Some OnlySecond
mark_of eq (some x) (some y) = ite (eq x y) None (Some Changed)

-- the difference at a place, if there is one
abbrev pub noted : Direction → Aspect → ℕ → ℕ → Option Mark → List Difference
noted d a x y None = []
noted d a x y (Some m) = record { direction = d; aspect = a; mark = m; subject = x; class = y } ∷ []

-- what n places have, from place i on, one after the other
unfoldable pub through : (ℕ → List Difference) → ℕ → ℕ → List Difference
through f zero i = []
through f (suc n) i = f i ++ through f n (suc i)

-- the class of each glyph, then the cells row by row
unfoldable pub classes_differ : Direction → ℕ → Machine → Machine → List Difference
classes_differ d n a b = through (λ g. noted d Class g 0 (mark_of ℕ_discrete (get_elem? a.columns g) (get_elem? b.columns g))) n 0

unfoldable pub cells_differ : Direction → Machine → Machine → List Difference
cells_differ d a b =
    through (λ r. through (λ c. noted d Cell r c (mark_of Entry-discrete (cell_of a r c) (cell_of b r c))) a.classes 0) a.rows 0

-- machines that differ in size, or of which there is one only, are one difference, and neither classes nor cells are listed
abbrev pub machines_differ : Direction → ℕ → Maybe Machine → Maybe Machine → List Difference
machines_differ d n none none = []
machines_differ d n (some a) none = noted d Sizes 0 0 (Some OnlyFirst)
machines_differ d n none (some b) = noted d Sizes 0 0 (Some OnlySecond)
machines_differ d n (some a) (some b) =
    cond (eqb a.rows b.rows && eqb a.classes b.classes) (classes_differ d n a b ++ cells_differ d a b) (noted d Sizes 0 0 (Some Changed))

-- the difference of a glyph's records of a class, by its two clusters
abbrev pub record_differs : Direction → ℕ → List Pair → List Pair → ℕ → List Difference
record_differs d g ps qs c = noted d Width g c (mark_of Pair-discrete (record_of c ps) (record_of c qs))

-- those of all classes
unfoldable pub records_differ : Direction → ℕ → List Pair → List Pair → List Difference
records_differ d g ps qs = through (record_differs d g ps qs) 128 0

-- the width records by glyph and class
unfoldable pub widths_differ : Direction → ℕ → Side → Side → List Difference
widths_differ d n a b = through (λ g. records_differ d g (get_or a.clusters g []) (get_or b.clusters g [])) n 0

-- a list of no actions is none
abbrev pub some_list : List Action → Maybe (List Action)
some_list [] = none
some_list (x ∷ l) = some (x ∷ l)

-- the difference of a glyph's lists, each as a whole
abbrev pub list_differs : Direction → ℕ → List Action → List Action → List Difference
list_differs d g xs ys = noted d Actions g 0 (mark_of list-discrete (some_list xs) (some_list ys))

-- the action lists by glyph
unfoldable pub lists_differ : Direction → ℕ → Side → Side → List Difference
lists_differ d n a b = through (λ g. list_differs d g (get_or a.lists g []) (get_or b.lists g [])) n 0

unfoldable pub sides_differ : Direction → ℕ → Side → Side → List Difference
sides_differ d n a b = machines_differ d n a.machine b.machine ++ (widths_differ d n a b ++ lists_differ d n a b)

unfoldable pub differences : Meaning → Meaning → List Difference
differences m m' =
    sides_differ Horizontal m.glyphs m.horizontal m'.horizontal ++ sides_differ Vertical m.glyphs m.vertical m'.vertical
