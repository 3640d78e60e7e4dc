-- The row count of any bytes is at most 256, and a cell by row and class is the cell by its index.
use Rattle.std.specs.Prelude.{Ok, Err}
use Prim.Native.Nat.{ℕ, zero, suc, ◌+◌, ◌*◌, ◌≤◌, ◌<◌}
use mathlib.Core.Path.{◌≡◌, refl, ap}
use mathlib.Core.Bool.{Bool, true, false, cond}
use mathlib.Core.List.{List}
use native.Mathlib.Omega.{arith}
use native.Mathlib.Nat.{mul-le-mul_right}
use lib.ListN.{get_or}
use lib.Dec.{ltb}
use Rattle.fields.specs.Faults.{FirstFault}
use Rattle.fields.specs.Faults.{Clear, Bad}
use Rattle.fields.specs.Faults.{◌then◌}
use Rattle.fields.proofs.Laws.{then-first, then-second}
use Rattle.machine.specs.Cells.{class_count, state_array, entry_at, cell_at}
use Rattle.machine.specs.Rows.{row_fault, raised_by, fault_from, count_from, unless, count_of, rows_fault, row_count}
use Rattle.machine.proofs.Steps.{raised-within}
use Rattle.table.specs.Means.{cell_by}

module _ (t : List ℕ) (here : ℕ) where
  count_most : (n row s : ℕ) → s ≤ 256 → fault_from t here n row s ≡ Clear → count_from t here n row s ≤ 256
  unfolding fault_from count_from row_fault raised_by
  count_most zero row s h e = h
  count_most (suc n) row s h e = go (ltb row s) (λ k. count_most n (row + 1) k) e
    where
      go : (b : Bool) → ((k : ℕ) → k ≤ 256 → fault_from t here n (row + 1) k ≡ Clear → count_from t here n (row + 1) k ≤ 256)
          → cond b (row_fault t here row then fault_from t here n (row + 1) (raised_by t here row s)) Clear ≡ Clear
          → cond b (count_from t here n (row + 1) (raised_by t here row s)) s ≤ 256
      go false ih e = h
      go true ih e = ih (raised_by t here row s) (raised-within t here row (class_count t here) 0 s h (then-first _ _ e)) (then-second _ _ e)

  pub rows-most : row_count t here ≤ 256
  unfolding row_count unless
  rows-most = go (rows_fault t here) (count_most 256 0 2 (omega arith))
    where
      go : (f : FirstFault) → (f ≡ Clear → count_from t here 256 0 2 ≤ 256) → count_of (unless f (count_from t here 256 0 2)) ≤ 256
      go (Ok u) h = h refl
      go (Err f) h = omega arith

  pub cell-by : (row class : ℕ) → cell_by t here (row * class_count t here + class) ≡ cell_at t here row class
  unfolding cell_by cell_at
  cell-by row class =
      let e : state_array t here + (row * class_count t here + class) ≡ state_array t here + row * class_count t here + class = omega arith in
      ap (λ (p : ℕ). entry_at t here (get_or t p 0)) e

-- a row below the row count, with a class below the class count, has its cell among the cells
pub index_below : (rows classes row class : ℕ) → row < rows → class < classes → row * classes + class < rows * classes
index_below rows classes row class h k =
    let e : (row + 1) * classes ≤ rows * classes = mul-le-mul_right classes (omega arith) in
    omega arith
