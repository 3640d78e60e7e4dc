-- The machine of 256 rows has no fault wherever it stands, and its row count is 256: row 0 leads to row 255.
use Prim.Native.Nat.{ℕ, zero, suc, ◌+◌, ◌-◌, ◌*◌, ◌<◌, ◌≤◌, max}
use mathlib.Core.Path.{◌≡◌, refl, ap, ◌∙◌}
use mathlib.Core.List.{List, [], ◌∷◌, ◌++◌}
use native.Mathlib.Omega.{arith}
use native.Mathlib.Nat.{min-le_left}
use lib.ListN.{length, length-append}
use Rattle.fields.specs.Faults.{FirstFault}
use Rattle.fields.specs.Faults.{Clear}
use Rattle.fields.specs.Field.{u16_at}
use Rattle.machine.specs.Cells.{class_count, class_table, entry_at, number_at, cell_at}
use Rattle.machine.specs.Rows.{cell_place, entry_place, entry_fault, cell_fault, raised, raised_by, count_from, rows_fault, unless, count_of, row_count}
use Rattle.machine.specs.Machine.{class_fault, covered, class_table_fault, machine_fault}
use Rattle.table_limits.specs.Full.{zeros, tall_head, tall_entries, tall_machine}
use Rattle.table_limits.proofs.Stands.{Stands, front, back, found, byte-is, u16-is, zeros-length, zeros-at, ◌so◌, each-clear}
use Rattle.table_limits.proofs.Rows.{head_clear, entry_row, entry-clear, raised-still, faults-on, counts-on, row-clear, rows-clear, rows-count}

tall-pieces : (length tall_head ≡ 12) × (length tall_entries ≡ 8)
unfolding tall_head tall_entries
tall-pieces = (refl, refl)

tall-head : (u16_at tall_head 0 ≡ 4) × (u16_at tall_head 2 ≡ 8) × (u16_at tall_head 4 ≡ 12) × (u16_at tall_head 6 ≡ 1036) × (u16_at tall_head 10 ≡ 0)
unfolding tall_head u16_at
tall-head = (refl, refl, refl, refl, refl)

tall-entries : (u16_at tall_entries 0 ≡ 12) × (u16_at tall_entries 4 ≡ 1032)
unfolding tall_entries u16_at
tall-entries = (refl, refl)

pub tall-length : length tall_machine ≡ 1044
unfolding tall_machine
tall-length =
    let a = length-append tall_head ((1 ∷ []) ++ (zeros 1023 ++ tall_entries)) in
    let b = length-append (1 ∷ []) (zeros 1023 ++ tall_entries) in
    let c = length-append (zeros 1023) tall_entries in
    omega (arith, zeros-length 1023, tall-pieces)

module _ {t : List ℕ} (here : ℕ) (s : Stands t here tall_machine) where
  head : Stands t here tall_head
  unfolding tall_machine
  head = front tall_head ((1 ∷ []) ++ (zeros 1023 ++ tall_entries)) s

  after-head : Stands t (here + 12) ((1 ∷ []) ++ (zeros 1023 ++ tall_entries))
  unfolding tall_machine
  after-head = back tall_head ((1 ∷ []) ++ (zeros 1023 ++ tall_entries)) s 12 (here + 12) tall-pieces.0 refl

  first_cell : Stands t (here + 12) (1 ∷ [])
  first_cell = front (1 ∷ []) (zeros 1023 ++ tall_entries) after-head

  after_first_lem : Stands t (here + 13) (zeros 1023 ++ tall_entries)
  after_first_lem = back (1 ∷ []) (zeros 1023 ++ tall_entries) after-head 1 (here + 13) refl (omega arith)

  cells : Stands t (here + 13) (zeros 1023)
  cells = front (zeros 1023) tall_entries after_first_lem

  entries : Stands t (here + 1036) tall_entries
  entries = back (zeros 1023) tall_entries after_first_lem 1023 (here + 1036) (zeros-length 1023) (omega arith)

  four : u16_at t here ≡ 4
  four = u16-is head here 0 (omega arith) (omega (arith, tall-pieces)) ∙ tall-head.0

  classes-at : u16_at t (here + 2) ≡ 8
  classes-at = u16-is head (here + 2) 2 refl (omega (arith, tall-pieces)) ∙ tall-head.1

  states-at : u16_at t (here + 4) ≡ 12
  states-at = u16-is head (here + 4) 4 refl (omega (arith, tall-pieces)) ∙ tall-head.2

  entries_at : u16_at t (here + 6) ≡ 1036
  entries_at = u16-is head (here + 6) 6 refl (omega (arith, tall-pieces)) ∙ tall-head.3

  -- the class table has no glyph
  count-is : u16_at t (class_table t here + 2) ≡ 0
  count-is = u16-is head (class_table t here + 2) 10 (omega (arith, classes-at)) (omega (arith, tall-pieces)) ∙ tall-head.4

  classes-clear : (n : ℕ) → class_table_fault t n here ≡ Clear
  unfolding class_table_fault
  classes-clear n =
      found head (class_table t here) 8 (omega (arith, classes-at)) 2 (omega (arith, tall-pieces))
      so found head (class_table t here + 2) 10 (omega (arith, classes-at)) 2 (omega (arith, tall-pieces))
      so each-clear (class_fault t here) 1 (covered n (u16_at t (class_table t here)) (u16_at t (class_table t here + 2))) (class_table t here + 4)
      (λ i h. absurd (omega (arith, count-is, min-le_left (u16_at t (class_table t here + 2)) (n - u16_at t (class_table t here)))))

  -- the entries
  new-0 : u16_at t (entry_place t here 0) ≡ 12
  new-0 = u16-is entries (entry_place t here 0) 0 (omega (arith, entries_at)) (omega (arith, tall-pieces)) ∙ tall-entries.0

  new-1 : u16_at t (entry_place t here 1) ≡ 1032
  new-1 = u16-is entries (entry_place t here 1) 4 (omega (arith, entries_at)) (omega (arith, tall-pieces)) ∙ tall-entries.1

  fine-0 : entry_fault t here 0 ≡ Clear
  fine-0 = entry-clear t here 0 4 12 12 four states-at new-0 (omega (arith, entries_at, entries.within, tall-pieces)) refl refl refl

  fine-1 : entry_fault t here 1 ≡ Clear
  fine-1 = entry-clear t here 1 4 12 1032 four states-at new-1 (omega (arith, entries_at, entries.within, tall-pieces)) refl refl refl

  row-0 : (entry_at t here 0).row ≡ 0
  row-0 = entry_row t here 0 4 12 12 four states-at new-0

  row-1 : (entry_at t here 1).row ≡ 255
  row-1 = entry_row t here 1 4 12 1032 four states-at new-1

  -- the cells
  place : (row class : ℕ) → cell_place t here row class ≡ here + 12 + (row * 4 + class)
  place row class = let q : row * u16_at t here ≡ row * 4 = ap (λ (k : ℕ). row * k) four in omega (arith, states-at)

  number-first : number_at t here 0 0 ≡ 1
  number-first = byte-is first_cell (cell_place t here 0 0) 0 (place 0 0) (omega arith)

  number-other : (row class : ℕ) → 0 < row * 4 + class → row * 4 + class < 1024 → number_at t here row class ≡ 0
  number-other row class a b =
      let p : cell_place t here row class ≡ here + 13 + (row * 4 + class - 1) = omega (arith, place row class) in
      byte-is cells (cell_place t here row class) (row * 4 + class - 1) p (omega (arith, zeros-length 1023)) ∙ zeros-at 1023 (row * 4 + class - 1) (omega arith)

  -- every cell's entry has no fault, and leads to row 255 or below it
  good : (row class : ℕ) → row * 4 + class < 1024 → (entry_fault t here (number_at t here row class) ≡ Clear) × ((entry_at t here (number_at t here row class)).row ≤ 255)
  good row class h = go (row * 4 + class) refl
    where
      go : (i : ℕ) → row * 4 + class ≡ i → (entry_fault t here (number_at t here row class) ≡ Clear) × ((entry_at t here (number_at t here row class)).row ≤ 255)
      go zero e =
          let p : cell_place t here row class ≡ here + 12 + 0 = omega (arith, place row class) in
          let one : number_at t here row class ≡ 1 = byte-is first_cell (cell_place t here row class) 0 p (omega arith) in
          let leads : (entry_at t here (number_at t here row class)).row ≡ 255 = ap (λ (x : ℕ). (entry_at t here x).row) one ∙ row-1 in
          (ap (entry_fault t here) one ∙ fine-1, omega arith)
      go (suc i) e =
          let none : number_at t here row class ≡ 0 = number-other row class (omega arith) h in
          let leads : (entry_at t here (number_at t here row class)).row ≡ 0 = ap (λ (x : ℕ). (entry_at t here x).row) none ∙ row-0 in
          (ap (entry_fault t here) none ∙ fine-0, omega arith)

  in_row : (row class : ℕ) → row < 256 → class < class_count t here → row * 4 + class < 1024
  in_row row class h k = omega (arith, four)

  cell-clear : (row class : ℕ) → row < 256 → class < class_count t here → cell_fault t here row class ≡ Clear
  unfolding cell_fault
  cell-clear row class h k =
      found after-head (cell_place t here row class) (row * 4 + class) (place row class) 1 (omega (arith, in_row row class h k, length-append (1 ∷ []) (zeros 1023 ++ tall_entries), length-append (zeros 1023) tall_entries, zeros-length 1023))
      so (good row class (in_row row class h k)).0

  cell-low : (row class : ℕ) → row < 256 → class < class_count t here → (cell_at t here row class).row < 256
  unfolding cell_at
  cell-low row class h k = omega (arith, (good row class (in_row row class h k)).1)

  -- row 0 raises the row count from 2 to 256
  first-leads : (cell_at t here 0 0).row ≡ 255
  unfolding cell_at
  first-leads = ap (λ (x : ℕ). (entry_at t here x).row) number-first ∙ row-1

  raise-four : raised t here 0 4 0 2 ≡ 256
  unfolding raised
  raise-four =
      ap (λ (x : ℕ). raised t here 0 3 1 (max 2 (x + 1))) first-leads
      ∙ raised-still t here 0 256 3 1 (λ c a b. cell-low 0 c (omega arith) (omega (arith, four)))

  raise : raised_by t here 0 2 ≡ 256
  unfolding raised_by
  raise = ap (λ (k : ℕ). raised t here 0 k 0 2) four ∙ raise-four

  rows-fine : rows_fault t here ≡ Clear
  rows-fine =
      faults-on t here 255 0 2 256 (omega arith) raise (row-clear t here 256 cell-clear cell-low 0 (omega arith)) (rows-clear t here 256 cell-clear cell-low 255 1)

  -- S is 256
  pub tall-rows : row_count t here ≡ 256
  unfolding row_count unless
  tall-rows =
      ap (λ (f : FirstFault). count_of (unless f (count_from t here 256 0 2))) rows-fine
      ∙ counts-on t here 255 0 2 256 (omega arith) raise (rows-count t here 256 cell-clear cell-low 255 1)

  pub tall-clear : (n : ℕ) → machine_fault t n here ≡ Clear
  unfolding machine_fault
  tall-clear n = head_clear 4 head (omega (arith, tall-pieces)) four refl refl so classes-clear n so rows-fine
