-- One step of the loops over a row's cells and over the rows, and what is known of what is clear.
use Rattle.fields.specs.Faults.{earlier}
use Rattle.std.specs.Prelude.{Ok, Err}
use Prim.Native.Nat.{ℕ, zero, suc, ◌+◌, ◌-◌, ◌*◌, ◌/◌, ◌%◌, ◌≤◌, ◌<◌, max}
use mathlib.Core.Path.{◌≡◌, refl, sym, ◌∙◌, ap, ap₂}
use mathlib.Core.List.{List}
use native.Mathlib.Omega.{arith}
use native.Mathlib.Decide.{ℕ_discrete}
use lib.ListN.{length, get_or, set, replicate, get_or-replicate}
use lib.Seq.{get_or-set_other}
use borrow.Author.Tests.{leb-true, le-leb, lt-leb, lt-ltb, le-ltb, eq-eqb}
use Rattle.fields.specs.declared.Fault.{Fault}
use Rattle.machine.specs.declared.Grid.{Grid}
use Rattle.fields.specs.declared.Refusal.TheVariants.{BadMachine}
use Rattle.fields.specs.Faults.{FirstFault}
use Rattle.fields.specs.Faults.{Clear}
use Rattle.fields.specs.Field.{u16_at}
use Rattle.fields.specs.Faults.{◌then◌}
use Rattle.fields.proofs.Laws.{then-first, then-second, then-go, clear-inside, rule-clear, rule-holds}
use Rattle.fields.specs.Walk.{walk}
use Rattle.fields.proofs.Walk.{walk-fails, walk-goes, walk-ends}
use Rattle.std.specs.Prelude.{Bool, true, false, ◌&&◌, take, drop}
use Rattle.std.specs.List.{list_all}
use lib.Dec.{ltb}
use borrow.Author.Tests.{ltb-true}
use lib.Seq.{drop-cons}
use native.Mathlib.Numerals.{add-one}
use Rattle.machine.specs.Cells.{class_count, class_table, class_at, entry_at, number_at, cell_at}
use Rattle.machine.specs.Rows.{cell_place, entry_place, entry_fault, cell_fault, cells_fault, row_fault, raised, raised_by, fault_from, count_from, unless, GridAt, Met}
use Rattle.machine.specs.Machine.{class_fault, classes_fault}

-- ---- a fault, or else a number

pub unless-clear : {f : FirstFault} (k : ℕ) → f ≡ Clear → unless f k ≡ Ok k
unfolding unless
unless-clear {f} k e = cc

-- what a number says of the fault before it
pub unless-count : (f : FirstFault) (k : ℕ) {j : ℕ} → unless f k ≡ Ok j → (f ≡ Clear) × (k ≡ j)
unfolding unless
unless-count (Ok u) k e = (refl, cc)
unless-count (Err f) k e = cc

-- a fault before another one
unless-stops : (f g : FirstFault) (k j : ℕ) {h : Fault} → unless f k ≡ Err h → unless (f then g) j ≡ Err h
unfolding earlier unless
unless-stops (Ok u) g k j e = cc
unless-stops (Err f) g k j e = e

-- ---- the cells of a row

pub cell-few : (t : List ℕ) (here row class : ℕ) → cell_fault t here row class ≡ Clear → (cell_at t here row class).row ≤ 255
unfolding cell_fault entry_fault cell_at
cell-few t here row class e = leb-true _ _ (rule-holds _ BadMachine _ (then-first _ _ (then-second _ _ (then-second _ _ (then-second _ _ (then-second _ _ e))))))

module _ (t : List ℕ) (here row : ℕ) where
  -- a loop over a row's cells begins, `n` being the class count as it was read
  pub raised-starts : (n s : ℕ) → n ≡ class_count t here → raised_by t here row s ≡ raised t here row (n - 0) 0 s
  unfolding raised_by
  raised-starts n s e = let z : n - 0 ≡ class_count t here = omega (arith, e) in rw z refl

  pub cells-start : (n s : ℕ) → n ≡ class_count t here
      → unless (row_fault t here row) (raised_by t here row s) ≡ unless (cells_fault t here row (n - 0) 0) (raised t here row (n - 0) 0 s)
  unfolding row_fault raised_by
  cells-start n s e = let z : n - 0 ≡ class_count t here = omega (arith, e) in rw z refl

  -- the cells before `i` of `n` are past; `k` is the row count as the code has it
  pub raised-goes : (n i s k : ℕ) → i < n → k ≡ max s ((cell_at t here row i).row + 1)
      → raised t here row (n - i) i s ≡ raised t here row (n - (i + 1)) (i + 1) k
  unfolding raised
  raised-goes n i s k h q = let r : n - i ≡ suc (n - (i + 1)) = omega arith in rw (r, q) refl

  pub raised-ends : (n i s : ℕ) → n ≤ i → raised t here row (n - i) i s ≡ s
  unfolding raised
  raised-ends n i s h = let z : n - i ≡ 0 = omega arith in rw z refl

  pub cells-fail : (n i s : ℕ) (f : Fault) → i < n → cell_fault t here row i ≡ Err f
      → unless (cells_fault t here row (n - i) i) (raised t here row (n - i) i s) ≡ Err f
  unfolding unless
  cells-fail n i s f h e = simp (walk-fails (λ c _. cell_fault t here row c) (λ c. c + 1) (λ c. 0) n i i 0 f h e)

  pub cells-go : (n i s k : ℕ) (u : Unit) → i < n → cell_fault t here row i ≡ Ok u → k ≡ max s ((cell_at t here row i).row + 1)
      → unless (cells_fault t here row (n - i) i) (raised t here row (n - i) i s)
      ≡ unless (cells_fault t here row (n - (i + 1)) (i + 1)) (raised t here row (n - (i + 1)) (i + 1) k)
  cells-go n i s k u h e q =
      ap₂ unless (walk-goes (λ c _. cell_fault t here row c) (λ c. c + 1) (λ c. 0) n i i 0 (i + 1) 0 u h e refl refl) (raised-goes n i s k h q)

  pub cells-end : (n i s : ℕ) → n ≤ i → unless (cells_fault t here row (n - i) i) (raised t here row (n - i) i s) ≡ Ok s
  cells-end n i s h =
      unless-clear _ (walk-ends (λ c _. cell_fault t here row c) (λ c. c + 1) (λ c. 0) n i i 0 h) ∙ ap Ok (raised-ends n i s h)

  raised-more : (n class s : ℕ) → s ≤ raised t here row n class s
  unfolding raised
  raised-more zero class s = omega arith
  raised-more (suc n) class s = omega (arith, raised-more n (class + 1) (max s ((cell_at t here row class).row + 1)))

  pub raised-within : (n class s : ℕ) → s ≤ 256 → cells_fault t here row n class ≡ Clear → raised t here row n class s ≤ 256
  unfolding raised walk
  raised-within zero class s h e = h
  raised-within (suc n) class s h e =
      let few : (cell_at t here row class).row ≤ 255 = cell-few t here row class (then-first _ _ e) in
      raised-within n (class + 1) (max s ((cell_at t here row class).row + 1)) (omega arith) (then-second _ _ e)

-- what a loop over the cells of a row needs
pub ruleset cell_steps = (cells-start, cells-fail, cells-go, cells-end)

-- ---- the rows

module _ (t : List ℕ) (here : ℕ) where
  pub rows-stop : (n row s : ℕ) (f : Fault) → 0 < n → row < s → unless (row_fault t here row) (raised_by t here row s) ≡ Err f
      → unless (fault_from t here n row s) (count_from t here n row s) ≡ Err f
  unfolding fault_from count_from
  rows-stop zero row s f h l e = absurd (omega arith)
  rows-stop (suc n) row s f h l e = rw (lt-ltb row s l) (unless-stops _ _ _ _ e)

  -- `k` and `m` are the row count and the rows left as the code has them
  pub rows_next : (n row s k m : ℕ) → row < s → unless (row_fault t here row) (raised_by t here row s) ≡ Ok k → n ≡ suc m
      → unless (fault_from t here n row s) (count_from t here n row s) ≡ unless (fault_from t here m (row + 1) k) (count_from t here m (row + 1) k)
  unfolding fault_from count_from
  rows_next n row s k m l e r =
      let u = unless-count (row_fault t here row) (raised_by t here row s) e in
      rw (r, lt-ltb row s l, u.1) (ap (λ (f : FirstFault). unless f (count_from t here m (row + 1) k)) (then-go _ u.0))

  pub rows_none : (n row s : ℕ) → s ≤ row → unless (fault_from t here n row s) (count_from t here n row s) ≡ Ok s
  unfolding fault_from count_from unless
  rows_none zero row s h = refl
  rows_none (suc n) row s h = simp (le-ltb row s h)

  pub rows-within : (row s j : ℕ) → s ≤ 256 → unless (row_fault t here row) (raised_by t here row s) ≡ Ok j → j ≤ 256
  unfolding row_fault raised_by
  rows-within row s j h e =
      let u = unless-count (row_fault t here row) (raised_by t here row s) e in
      omega (arith, u.1, raised-within t here row (class_count t here) 0 s h u.0)

-- what the loop over the rows needs
pub ruleset row_steps = (rows-stop, rows_next, rows_none, rows-within)

-- ---- entries that were met

-- at first none
pub met-none : (t : List ℕ) (here s : ℕ) → Met t here s (replicate 256 false)
met-none t here s = record { clear = λ i h o. none i h o; below = λ i h o. none i h o }
  where
    none : {A : Type 0} (i : ℕ) → i < 256 → get_or (replicate 256 false) i false ≡ true → A
    none i h o = let z : false ≡ true = sym (get_or-replicate 256 i false false h) ∙ o in cc

-- the row count only grows
pub met-more : {t : List ℕ} {here s : ℕ} {met : List Bool} (k : ℕ) → s ≤ k → Met t here s met → Met t here k met
met-more k l m = record { clear = m.clear; below = λ i h o. omega (arith, m.below i h o) }

-- what is met up to the cell `i` of `n` leads below what the cells from it on raise the row count to
pub met_next : (t : List ℕ) (here row n i s : ℕ) {met : List Bool} → i < n → Met t here (max s ((cell_at t here row i).row + 1)) met
    → Met t here (raised t here row (n - i) i s) met
met_next t here row n i s h =
    met-more (raised t here row (n - i) i s)
    (omega (arith, raised-goes t here row n i s (max s ((cell_at t here row i).row + 1)) h refl, raised-more t here row (n - (i + 1)) (i + 1) (max s ((cell_at t here row i).row + 1))))

-- the entry of a cell without fault comes to be met
module _ (t : List ℕ) (here row class number s : ℕ) (met : List Bool) (q : number ≡ number_at t here row class) (m : Met t here s met) where
  pub met-entry : entry_fault t here number ≡ Clear → Met t here (max s ((cell_at t here row class).row + 1)) (set met number true)
  unfolding cell_at
  met-entry e = record { clear = λ i l h. clear i l h (ℕ_discrete i number); below = λ i l h. below i l h (ℕ_discrete i number) }
    where
      clear : (i : ℕ) → i < 256 → get_or (set met number true) i false ≡ true → Dec (i ≡ number) → entry_fault t here i ≡ Clear
      clear i l h (yes o) = ap (entry_fault t here) o ∙ e
      clear i l h (no n) = m.clear i l (rw (get_or-set_other met number i true false n) at h)

      below : (i : ℕ) → i < 256 → get_or (set met number true) i false ≡ true → Dec (i ≡ number)
          → (entry_at t here i).row < max s ((entry_at t here (number_at t here row class)).row + 1)
      below i l h (yes o) = rw (o ∙ q) (omega arith)
      below i l h (no n) = omega (arith, m.below i l (rw (get_or-set_other met number i true false n) at h))

-- ---- class bytes, entries and cells as they were read

-- a class byte that lies inside and is below the class count has no fault
pub class-clear : (t : List ℕ) (here at class classes : ℕ) → at < length t → class ≡ get_or t at 0 → classes ≡ class_count t here → class < classes
    → class_fault t here at ≡ Clear
unfolding class_fault
class-clear t here at class classes h e f l =
    then-go _ (clear-inside t at 1 (omega arith)) ∙ rule-clear BadMachine at (lt-ltb (get_or t at 0) (class_count t here) (omega arith))

and-parts : (a b : Bool) → (a && b) ≡ true → (a ≡ true) × (b ≡ true)
and-parts true b e = (refl, e)
and-parts false b e = cc

-- class bytes that stand in the table, each below the class count
module _ (t : List ℕ) (here classes : ℕ) (e : classes ≡ class_count t here) where
  pub classes-clear : (n at : ℕ) → at + n ≤ length t → list_all (λ class. ltb class classes) (take n (drop at t)) ≡ true → classes_fault t here n at ≡ Clear
  unfolding walk
  classes-clear zero at h o = refl
  classes-clear (suc n) at h o =
      let b = and-parts _ _ (rw (drop-cons t at 0 (omega arith)) at o) in
      let next : list_all (λ class. ltb class classes) (take n (drop (at + 1) t)) ≡ true = rw add-one b.1 in
      then-go _ (class-clear t here at (get_or t at 0) classes (omega arith) refl e (ltb-true _ _ b.0)) ∙ classes-clear n (at + 1) (omega arith) next

-- an entry that was read by a grid: it leads to a whole row, 255 or less
module _ (t : List ℕ) (here number at to : ℕ) (g : Grid) (k : GridAt t here g) (q : at ≡ g.entries + 4 * number) (r : to ≡ u16_at t at) where
  entry_there : at ≡ entry_place t here number
  entry_there = rw (← k.entries) q

  pub entry-leads : (to - g.array) / g.classes ≡ (entry_at t here number).row
  unfolding entry_at
  entry-leads = rw (r, entry_there, k.array, k.classes) refl

  pub entry-clear : at + 4 ≤ length t → g.array ≤ to → (to - g.array) % g.classes ≡ 0 → (to - g.array) / g.classes ≤ 255 → entry_fault t here number ≡ Clear
  unfolding entry_fault
  entry-clear h past whole few =
      then-go _ (clear-inside t (entry_place t here number) 2 (omega (arith, entry_there)))
      ∙ then-go _ (rule-clear BadMachine _ (le-leb _ _ (rw (r, entry_there, k.array) at past)))
      ∙ then-go _ (rule-clear BadMachine _ (eq-eqb _ _ (rw (r, entry_there, k.array, k.classes) at whole)))
      ∙ then-go _ (rule-clear BadMachine _ (le-leb _ _ (rw entry-leads at few)))
      ∙ clear-inside t (entry_place t here number + 2) 2 (omega (arith, entry_there))

-- and so is the cell that names it
pub cell-clear : (t : List ℕ) (here row class at number : ℕ) → at ≡ cell_place t here row class → number ≡ get_or t at 0 → at < length t
    → entry_fault t here number ≡ Clear → cell_fault t here row class ≡ Clear
unfolding cell_fault
cell-clear t here row class at number p q h e =
    then-go _ (clear-inside t (cell_place t here row class) 1 (omega arith)) ∙ sym (ap (entry_fault t here) (q ∙ ap (λ (i : ℕ). get_or t i 0) p)) ∙ e

pub cell-row : (t : List ℕ) (here row class number : ℕ) → number ≡ number_at t here row class → (entry_at t here number).row ≡ (cell_at t here row class).row
unfolding cell_at
cell-row t here row class number q = ap (λ (n : ℕ). (entry_at t here n).row) q

-- a glyph before the class table's first, after its last, and among them
module _ (t : List ℕ) (here glyph : ℕ) where
  pub class-before : glyph < u16_at t (class_table t here) → class_at t here glyph ≡ 1
  unfolding class_at
  class-before h = simp (lt-leb _ _ h)

  pub class-after : u16_at t (class_table t here) ≤ glyph → u16_at t (class_table t here) + u16_at t (class_table t here + 2) ≤ glyph → class_at t here glyph ≡ 1
  unfolding class_at
  class-after g h = simp (le-leb _ _ g, le-ltb _ _ h)

  pub class-among : u16_at t (class_table t here) ≤ glyph → glyph < u16_at t (class_table t here) + u16_at t (class_table t here + 2)
      → class_at t here glyph ≡ get_or t (class_table t here + 4 + (glyph - u16_at t (class_table t here))) 0
  unfolding class_at
  class-among g h = simp (le-leb _ _ g, lt-ltb _ _ h)
