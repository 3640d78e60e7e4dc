-- A machine at its limits, piece by piece: its head, its entries, and rows whose cells have no fault and lead below a row count s, which stays the row count.
use Prim.Native.Nat.{ℕ, zero, suc, ◌+◌, ◌-◌, ◌*◌, ◌/◌, ◌%◌, ◌≤◌, ◌<◌, max}
use mathlib.Core.Path.{◌≡◌, refl, ap, ◌∙◌}
use mathlib.Core.Bool.{Bool, true, false, cond}
use mathlib.Core.List.{List}
use native.Mathlib.Omega.{arith}
use lib.Dec.{leb, ltb, eqb}
use lib.ListN.{length}
use borrow.Author.Tests.{ltb-true, lt-ltb}
use Rattle.fields.specs.declared.Refusal.TheVariants.{BadMachine}
use Rattle.fields.specs.Faults.{Clear}
use Rattle.fields.specs.Field.{u16_at}
use Rattle.fields.specs.Faults.{◌then◌}
use Rattle.fields.proofs.Laws.{rule-clear, clear-inside}
use Rattle.machine.specs.Cells.{class_count, entry_at, cell_at}
use Rattle.machine.specs.Rows.{entry_place, entry_fault, cell_fault, row_fault, raised, raised_by, fault_from, count_from}
use Rattle.machine.specs.Machine.{head_fault}
use Rattle.table_limits.proofs.Stands.{Stands, found, ◌so◌, each-clear}

-- ---- the head: a class count of 4 to 255, and three offsets

pub head_clear : {t : List ℕ} {here : ℕ} {l : List ℕ} (k : ℕ) → Stands t here l → 8 ≤ length l → u16_at t here ≡ k → leb 4 k ≡ true → leb k 255 ≡ true → head_fault t here ≡ Clear
unfolding head_fault
head_clear {t} {here} {l} k s n e low most =
    found s here 0 (omega arith) 2 (omega arith)
    so rule-clear BadMachine here (ap (λ (x : ℕ). leb 4 x) e ∙ low)
    so rule-clear BadMachine here (ap (λ (x : ℕ). leb x 255) e ∙ most)
    so found s (here + 2) 2 refl 2 (omega arith)
    so found s (here + 4) 4 refl 2 (omega arith)
    so found s (here + 6) 6 refl 2 (omega arith)

-- ---- an entry: k classes, the state array at a, the new row at o

module _ (t : List ℕ) (here number k a o : ℕ) (classes : u16_at t here ≡ k) (states : u16_at t (here + 4) ≡ a) (new : u16_at t (entry_place t here number) ≡ o) where
  pub entry_row : (entry_at t here number).row ≡ (o - a) / k
  unfolding entry_at
  entry_row = rw (new, states, classes)

  pub entry-clear : entry_place t here number + 4 ≤ length t → leb a o ≡ true → eqb ((o - a) % k) 0 ≡ true → leb ((o - a) / k) 255 ≡ true → entry_fault t here number ≡ Clear
  unfolding entry_fault
  entry-clear h low whole most =
      clear-inside t (entry_place t here number) 2 (omega arith)
      so rule-clear BadMachine (entry_place t here number) (rw (states, new) low)
      so rule-clear BadMachine (entry_place t here number) (rw (new, states, classes) whole)
      so rule-clear BadMachine (entry_place t here number) (ap (λ (x : ℕ). leb x 255) entry_row ∙ most)
      so clear-inside t (entry_place t here number + 2) 2 (omega arith)

-- ---- rows

module _ (t : List ℕ) (here row s : ℕ) where
  -- cells that lead below s leave it
  pub raised-still : (n class : ℕ) → ((c : ℕ) → class ≤ c → c < class + n → (cell_at t here row c).row < s) → raised t here row n class s ≡ s
  unfolding raised
  raised-still zero class h = refl
  raised-still (suc n) class h =
      let e : max s ((cell_at t here row class).row + 1) ≡ s = omega (arith, h class (omega arith) (omega arith)) in
      ap (raised t here row n (class + 1)) e ∙ raised-still n (class + 1) (λ c a b. h c (omega arith) (omega arith))

-- a row that raises the row count s to k, and the rows after it
module _ (t : List ℕ) (here n row s k : ℕ) (below : row < s) (raise : raised_by t here row s ≡ k) where
  pub faults-on : row_fault t here row ≡ Clear → fault_from t here n (row + 1) k ≡ Clear → fault_from t here (suc n) row s ≡ Clear
  unfolding fault_from
  faults-on f g = rw (lt-ltb row s below) (f so (ap (fault_from t here n (row + 1)) raise ∙ g))

  pub counts-on : count_from t here n (row + 1) k ≡ k → count_from t here (suc n) row s ≡ k
  unfolding count_from
  counts-on g = rw (lt-ltb row s below) (ap (count_from t here n (row + 1)) raise ∙ g)

module _ (t : List ℕ) (here s : ℕ) (clear : (row class : ℕ) → row < s → class < class_count t here → cell_fault t here row class ≡ Clear)
    (low : (row class : ℕ) → row < s → class < class_count t here → (cell_at t here row class).row < s) where
  pub row-clear : (row : ℕ) → row < s → row_fault t here row ≡ Clear
  unfolding row_fault
  row-clear row h = each-clear (cell_fault t here row) 1 (class_count t here) 0 (λ i l. clear row (0 + 1 * i) h (omega arith))

  row-still : (row : ℕ) → row < s → raised_by t here row s ≡ s
  unfolding raised_by
  row-still row h = raised-still t here row s (class_count t here) 0 (λ c a b. low row c h (omega arith))

  pub rows-clear : (n row : ℕ) → fault_from t here n row s ≡ Clear
  unfolding fault_from
  rows-clear zero row = refl
  rows-clear (suc n) row = go (ltb row s) refl (rows-clear n (row + 1))
    where
      go : (b : Bool) → ltb row s ≡ b → fault_from t here n (row + 1) s ≡ Clear
          → cond b (row_fault t here row then fault_from t here n (row + 1) (raised_by t here row s)) Clear ≡ Clear
      go true e ih =
          let h : row < s = ltb-true row s e in
          row-clear row h so (ap (fault_from t here n (row + 1)) (row-still row h) ∙ ih)
      go false e ih = refl

  pub rows-count : (n row : ℕ) → count_from t here n row s ≡ s
  unfolding count_from
  rows-count zero row = refl
  rows-count (suc n) row = go (ltb row s) refl (rows-count n (row + 1))
    where
      go : (b : Bool) → ltb row s ≡ b → count_from t here n (row + 1) s ≡ s → cond b (count_from t here n (row + 1) (raised_by t here row s)) s ≡ s
      go true e ih = ap (count_from t here n (row + 1)) (row-still row (ltb-true row s e)) ∙ ih
      go false e ih = refl
