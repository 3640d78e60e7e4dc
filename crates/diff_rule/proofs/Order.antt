-- The list stands in the order of document 02, 6/14, and each difference once: what says which difference it is, direction, aspect and the two numbers as one
-- number, rises strictly.
use Prim.Native.Nat.{ℕ, zero, suc, ◌+◌, ◌*◌, ◌≤◌, ◌<◌, ◌^◌}
use mathlib.Core.Path.{◌≡◌}
use mathlib.Core.Bool.{Bool, true, false, cond, ◌&&◌}
use mathlib.Core.Option.{Option as Maybe, none, some}
use Rattle.std.specs.Prelude.{Option, None, Some}
use mathlib.Core.List.{List, [], ◌∷◌, ◌++◌}
use native.Mathlib.Decide.{ℕ_discrete}
use native.Mathlib.Omega.{arith}
use lib.Dec.{eqb}
use lib.ListN.{length, get_or, get_elem?}
use Rattle.types.specs.declared.Direction.{Direction}
use Rattle.types.specs.declared.Direction.TheVariants.{Horizontal, Vertical}
use Rattle.meaning.specs.Meaning.{Machine, Side, Meaning}
use Rattle.meaning.specs.Ask.{cell_of, record_of}
use Rattle.meaning.specs.Discrete.{Entry-discrete, Pair-discrete, list-discrete}
use Rattle.meaning.specs.Limits.{OkMachine, OkMaybe, OkSide, Valid}
use Rattle.diff_rule.specs.declared.Aspect.{Aspect}
use Rattle.diff_rule.specs.declared.Aspect.TheVariants.{Sizes, Class, Cell, Width, Actions}
use Rattle.diff_rule.specs.declared.Mark.{Mark}
use Rattle.diff_rule.specs.declared.Mark.TheVariants.{Changed, OnlyFirst, OnlySecond}
use Rattle.diff_rule.specs.declared.Difference.{Difference}
use Rattle.diff_rule.specs.Differences.{mark_of, noted, through, classes_differ, cells_differ, machines_differ, records_differ, widths_differ, some_list, lists_differ, sides_differ, differences}
use Rattle.diff_rule.specs.Order.{first_key, key_of, Between}

-- ---- lists of rising keys

wider : (b e b' e' : ℕ) (xs : List Difference) → b' ≤ b → e ≤ e' → Between b e xs → Between b' e' xs
wider b e b' e' [] h i w = omega (arith, w)
wider b e b' e' (x ∷ xs) h i w = (omega (arith, w.0), wider (suc (key_of x)) e (suc (key_of x)) e' xs (omega arith) i w.1)

append-between : (b m e : ℕ) (xs ys : List Difference) → Between b m xs → Between m e ys → Between b e (xs ++ ys)
append-between b m e [] ys w v = wider m e b e ys w (omega arith) v
append-between b m e (x ∷ xs) ys w v = (w.0, append-between (suc (key_of x)) m e xs ys w.1 v)

-- at one place
noted-between : (d : Direction) (a : Aspect) (x y b e : ℕ) (o : Option Mark) → b ≤ first_key d a + 256 * x + y → first_key d a + 256 * x + y < e
    → Between b e (noted d a x y o)
noted-between d a x y b e None h i = omega arith
noted-between d a x y b e (Some m) h i = (h, omega arith)

-- place after place, each in a stretch of `w` keys
through-between : (f : ℕ → List Difference) (b w n i : ℕ) → ((k : ℕ) → k < i + n → Between (b + w * k) (b + w * k + w) (f k))
    → Between (b + w * i) (b + w * i + w * n) (through f n i)
unfolding through
through-between f b w zero i h = omega arith
through-between f b w (suc n) i h =
    let one : Between (b + w * i) (b + w * i + w) (f i) = h i (omega arith) in
    let p : b + w * i + w ≡ b + w * suc i = omega arith in
    let q : b + w * suc i + w * n ≡ b + w * i + w * suc n = omega arith in
    append-between (b + w * i) (b + w * i + w) (b + w * i + w * suc n) (f i) (through f n (suc i)) one
    (rw (p, ← q) (through-between f b w n (suc i) (λ k l. h k (omega arith))))

each-between : (f : ℕ → List Difference) (b w n e : ℕ) → ((k : ℕ) → k < n → Between (b + w * k) (b + w * k + w) (f k)) → b + w * n ≤ e
    → Between b e (through f n 0)
each-between f b w n e h i =
    wider (b + w * 0) (b + w * 0 + w * n) b e (through f n 0) (omega arith) (omega arith) (through-between f b w n 0 (λ k l. h k (omega arith)))

module _ (d : Direction) (n : ℕ) (few : n ≤ 65535) where
  machine-between : (a b : Machine) → OkMachine n a → Between (first_key d Class) (first_key d Width) (classes_differ d n a b ++ cells_differ d a b)
  unfolding classes_differ cells_differ
  machine-between a b ok =
      append-between (first_key d Class) (first_key d Cell) (first_key d Width) (classes_differ d n a b) (cells_differ d a b)
      (each-between (λ g. noted d Class g 0 (mark_of ℕ_discrete (get_elem? a.columns g) (get_elem? b.columns g))) (first_key d Class) 256 n (first_key d Cell) (λ g l. noted-between d Class g 0 (first_key d Class + 256 * g) (first_key d Class + 256 * g + 256) (mark_of ℕ_discrete (get_elem? a.columns g) (get_elem? b.columns g)) (omega arith) (omega arith)) (omega arith))
      (each-between (λ r. through (λ c. noted d Cell r c (mark_of Entry-discrete (cell_of a r c) (cell_of b r c))) a.classes 0) (first_key d Cell) 256 a.rows (first_key d Width)
      (λ r l.
      each-between (λ c. noted d Cell r c (mark_of Entry-discrete (cell_of a r c) (cell_of b r c))) (first_key d Cell + 256 * r) 1 a.classes (first_key d Cell + 256 * r + 256)
      (λ c k. noted-between d Cell r c (first_key d Cell + 256 * r + 1 * c) (first_key d Cell + 256 * r + 1 * c + 1) (mark_of Entry-discrete (cell_of a r c) (cell_of b r c)) (omega arith) (omega arith))
      (omega (arith, ok.few-classes)))
      (omega (arith, ok.few-rows)))

  machines-between : (a b : Maybe Machine) → OkMaybe n a → Between (first_key d Sizes) (first_key d Width) (machines_differ d n a b)
  machines-between none none ok = omega arith
  machines-between (some a) none ok = noted-between d Sizes 0 0 (first_key d Sizes) (first_key d Width) (Some OnlyFirst) (omega arith) (omega arith)
  machines-between none (some b) ok = noted-between d Sizes 0 0 (first_key d Sizes) (first_key d Width) (Some OnlySecond) (omega arith) (omega arith)
  machines-between (some a) (some b) ok = go (eqb a.rows b.rows && eqb a.classes b.classes)
    where
      go : (q : Bool) → Between (first_key d Sizes) (first_key d Width) (cond q (classes_differ d n a b ++ cells_differ d a b) (noted d Sizes 0 0 (Some Changed)))
      go true = wider (first_key d Class) (first_key d Width) (first_key d Sizes) (first_key d Width) (classes_differ d n a b ++ cells_differ d a b) (omega arith) (omega arith) (machine-between a b ok)
      go false = noted-between d Sizes 0 0 (first_key d Sizes) (first_key d Width) (Some Changed) (omega arith) (omega arith)

  side-between : (a b : Side) → OkSide n a → Between (first_key d Sizes) (first_key d Sizes + 5 * 2 ^ 24) (sides_differ d n a b)
  unfolding sides_differ widths_differ records_differ lists_differ
  side-between a b ok =
      append-between (first_key d Sizes) (first_key d Width) (first_key d Sizes + 5 * 2 ^ 24) (machines_differ d n a.machine b.machine)
      (widths_differ d n a b ++ lists_differ d n a b)
      (machines-between a.machine b.machine ok.machine)
      (append-between (first_key d Width) (first_key d Actions) (first_key d Sizes + 5 * 2 ^ 24) (widths_differ d n a b) (lists_differ d n a b)
      (each-between (λ g. through (λ c. noted d Width g c (mark_of Pair-discrete (record_of c (get_or a.clusters g [])) (record_of c (get_or b.clusters g [])))) 128 0) (first_key d Width) 256 n (first_key d Actions)
      (λ g l. each-between (λ c. noted d Width g c (mark_of Pair-discrete (record_of c (get_or a.clusters g [])) (record_of c (get_or b.clusters g [])))) (first_key d Width + 256 * g) 1 128 (first_key d Width + 256 * g + 256)
      (λ c k. noted-between d Width g c (first_key d Width + 256 * g + 1 * c) (first_key d Width + 256 * g + 1 * c + 1) (mark_of Pair-discrete (record_of c (get_or a.clusters g [])) (record_of c (get_or b.clusters g []))) (omega arith) (omega arith)) (omega arith))
      (omega arith))
      (each-between (λ g. noted d Actions g 0 (mark_of list-discrete (some_list (get_or a.lists g [])) (some_list (get_or b.lists g [])))) (first_key d Actions) 256 n (first_key d Sizes + 5 * 2 ^ 24)
      (λ g l. noted-between d Actions g 0 (first_key d Actions + 256 * g) (first_key d Actions + 256 * g + 256) (mark_of list-discrete (some_list (get_or a.lists g [])) (some_list (get_or b.lists g []))) (omega arith) (omega arith)) (omega arith)))

pub in_order : (m m' : Meaning) → Valid m → Between 0 (10 * 2 ^ 24) (differences m m')
unfolding differences
in_order m m' v =
    append-between 0 (5 * 2 ^ 24) (10 * 2 ^ 24) (sides_differ Horizontal m.glyphs m.horizontal m'.horizontal)
    (sides_differ Vertical m.glyphs m.vertical m'.vertical)
    (side-between Horizontal m.glyphs v.few-glyphs m.horizontal m'.horizontal v.horizontal)
    (side-between Vertical m.glyphs v.few-glyphs m.vertical m'.vertical v.vertical)

-- ---- so they are few

between-few : (b e : ℕ) (xs : List Difference) → Between b e xs → b + length xs ≤ e
between-few b e [] w = omega (arith, w)
between-few b e (x ∷ xs) w = omega (arith, w.0, between-few (suc (key_of x)) e xs w.1)

pub differences-few : (m m' : Meaning) → Valid m → length (differences m m') ≤ 10 * 2 ^ 24
differences-few m m' v = omega (arith, between-few 0 (10 * 2 ^ 24) (differences m m') (in_order m m' v))
