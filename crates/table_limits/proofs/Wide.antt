-- The machine of 255 classes has no fault wherever it stands.
use Prim.Native.Nat.{ℕ, ◌+◌, ◌-◌, ◌*◌, ◌<◌}
use mathlib.Core.Path.{◌≡◌, refl, ap, ◌∙◌}
use mathlib.Core.List.{List, ◌++◌}
use native.Mathlib.Omega.{arith}
use native.Mathlib.Nat.{min-le_left}
use lib.ListN.{length, get_or, length-append}
use borrow.Author.Tests.{lt-ltb}
use Rattle.fields.specs.declared.Refusal.TheVariants.{BadMachine}
use Rattle.fields.specs.Faults.{Clear}
use Rattle.fields.specs.Field.{u16_at}
use Rattle.fields.proofs.Laws.{rule-clear}
use Rattle.machine.specs.Cells.{class_count, class_table, entry_at, number_at, cell_at}
use Rattle.machine.specs.Rows.{cell_place, entry_place, entry_fault, cell_fault}
use Rattle.machine.specs.Machine.{class_fault, covered, class_table_fault, machine_fault}
use Rattle.table_limits.specs.Full.{zeros, wide_head, wide_classes, wide_entry, wide_machine}
use Rattle.table_limits.proofs.Stands.{Stands, front, back, found, byte-is, u16-is, zeros-length, zeros-at, ◌so◌, each-clear}
use Rattle.table_limits.proofs.Rows.{head_clear, entry_row, entry-clear, rows-clear}

wide-pieces : (length wide_head ≡ 8) × (length wide_classes ≡ 5) × (length wide_entry ≡ 4)
unfolding wide_head wide_classes wide_entry
wide-pieces = (refl, refl, refl)

wide-head : (u16_at wide_head 0 ≡ 255) × (u16_at wide_head 2 ≡ 8) × (u16_at wide_head 4 ≡ 13) × (u16_at wide_head 6 ≡ 523)
unfolding wide_head u16_at
wide-head = (refl, refl, refl, refl)

wide-classes : (u16_at wide_classes 2 ≡ 1) × (get_or wide_classes 4 0 ≡ 254)
unfolding wide_classes u16_at
wide-classes = (refl, refl)

wide-entry : u16_at wide_entry 0 ≡ 268
unfolding wide_entry u16_at
wide-entry = refl

pub wide-length : length wide_machine ≡ 527
unfolding wide_machine
wide-length =
    let a = length-append wide_head (wide_classes ++ (zeros 510 ++ wide_entry)) in
    let b = length-append wide_classes (zeros 510 ++ wide_entry) in
    let c = length-append (zeros 510) wide_entry in
    omega (arith, zeros-length 510, wide-pieces)

module _ {t : List ℕ} (here : ℕ) (s : Stands t here wide_machine) where
  head : Stands t here wide_head
  unfolding wide_machine
  head = front wide_head (wide_classes ++ (zeros 510 ++ wide_entry)) s

  after-head : Stands t (here + 8) (wide_classes ++ (zeros 510 ++ wide_entry))
  unfolding wide_machine
  after-head = back wide_head (wide_classes ++ (zeros 510 ++ wide_entry)) s 8 (here + 8) wide-pieces.0 refl

  classes : Stands t (here + 8) wide_classes
  classes = front wide_classes (zeros 510 ++ wide_entry) after-head

  after-classes : Stands t (here + 13) (zeros 510 ++ wide_entry)
  after-classes = back wide_classes (zeros 510 ++ wide_entry) after-head 5 (here + 13) wide-pieces.1 (omega arith)

  cells : Stands t (here + 13) (zeros 510)
  cells = front (zeros 510) wide_entry after-classes

  entry : Stands t (here + 523) wide_entry
  entry = back (zeros 510) wide_entry after-classes 510 (here + 523) (zeros-length 510) (omega arith)

  -- it counts 255 classes
  pub wide-count : u16_at t here ≡ 255
  wide-count = u16-is head here 0 (omega arith) (omega (arith, wide-pieces)) ∙ wide-head.0

  classes-at : u16_at t (here + 2) ≡ 8
  classes-at = u16-is head (here + 2) 2 refl (omega (arith, wide-pieces)) ∙ wide-head.1

  states-at : u16_at t (here + 4) ≡ 13
  states-at = u16-is head (here + 4) 4 refl (omega (arith, wide-pieces)) ∙ wide-head.2

  entries_at : u16_at t (here + 6) ≡ 523
  entries_at = u16-is head (here + 6) 6 refl (omega (arith, wide-pieces)) ∙ wide-head.3

  -- the class table
  count-is : u16_at t (class_table t here + 2) ≡ 1
  count-is = u16-is classes (class_table t here + 2) 2 (omega (arith, classes-at)) (omega (arith, wide-pieces)) ∙ wide-classes.0

  class-clear : (n i : ℕ) → i < covered n (u16_at t (class_table t here)) (u16_at t (class_table t here + 2)) → class_fault t here (class_table t here + 4 + 1 * i) ≡ Clear
  unfolding class_fault
  class-clear n i h =
      let l : i < 1 = omega (arith, count-is, min-le_left (u16_at t (class_table t here + 2)) (n - u16_at t (class_table t here))) in
      let p : class_table t here + 4 + 1 * i ≡ here + 8 + 4 = omega (arith, classes-at) in
      let b = byte-is classes (class_table t here + 4 + 1 * i) 4 p (omega (arith, wide-pieces)) ∙ wide-classes.1 in
      found classes (class_table t here + 4 + 1 * i) 4 p 1 (omega (arith, wide-pieces))
      so rule-clear BadMachine (class_table t here + 4 + 1 * i) (lt-ltb (get_or t (class_table t here + 4 + 1 * i) 0) (u16_at t here) (omega (arith, wide-count)))

  classes-clear : (n : ℕ) → class_table_fault t n here ≡ Clear
  unfolding class_table_fault
  classes-clear n =
      found classes (class_table t here) 0 (omega (arith, classes-at)) 2 (omega (arith, wide-pieces))
      so found classes (class_table t here + 2) 2 (omega (arith, classes-at)) 2 (omega (arith, wide-pieces))
      so each-clear (class_fault t here) 1 (covered n (u16_at t (class_table t here)) (u16_at t (class_table t here + 2))) (class_table t here + 4) (class-clear n)

  -- the entry
  new_row : u16_at t (entry_place t here 0) ≡ 268
  new_row = u16-is entry (entry_place t here 0) 0 (omega (arith, entries_at)) (omega (arith, wide-pieces)) ∙ wide-entry

  entry-fine : entry_fault t here 0 ≡ Clear
  entry-fine = entry-clear t here 0 255 13 268 wide-count states-at new_row (omega (arith, entries_at, entry.within, wide-pieces)) refl refl refl

  -- the cells
  place : (row class : ℕ) → cell_place t here row class ≡ here + 13 + (row * 255 + class)
  place row class = let q : row * u16_at t here ≡ row * 255 = ap (λ (k : ℕ). row * k) wide-count in omega (arith, states-at)

  number_is : (row class : ℕ) → row < 2 → class < 255 → number_at t here row class ≡ 0
  number_is row class h k =
      byte-is cells (cell_place t here row class) (row * 255 + class) (place row class) (omega (arith, zeros-length 510)) ∙ zeros-at 510 (row * 255 + class) (omega arith)

  cell-clear : (row class : ℕ) → row < 2 → class < class_count t here → cell_fault t here row class ≡ Clear
  unfolding cell_fault
  cell-clear row class h k =
      found cells (cell_place t here row class) (row * 255 + class) (place row class) 1 (omega (arith, zeros-length 510, wide-count))
      so (ap (entry_fault t here) (number_is row class h (omega (arith, wide-count))) ∙ entry-fine)

  cell-low : (row class : ℕ) → row < 2 → class < class_count t here → (cell_at t here row class).row < 2
  unfolding cell_at
  cell-low row class h k =
      let e : (entry_at t here (number_at t here row class)).row ≡ 1 =
      ap (λ (x : ℕ). (entry_at t here x).row) (number_is row class h (omega (arith, wide-count))) ∙ entry_row t here 0 255 13 268 wide-count states-at new_row in
      omega arith

  pub wide-clear : (n : ℕ) → machine_fault t n here ≡ Clear
  unfolding machine_fault
  wide-clear n =
      head_clear 255 head (omega (arith, wide-pieces)) wide-count refl refl so classes-clear n so rows-clear t here 2 cell-clear cell-low 256 0
