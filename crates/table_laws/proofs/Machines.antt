-- A machine without fault, as it is read, keeps the limits: classes below the class count, S the least, at most 256 distinct entries.
use Prim.Native.Nat.{ℕ, ◌+◌, ◌*◌, ◌/◌, ◌%◌, ◌≤◌, ◌<◌}
use mathlib.Core.Path.{◌≡◌, refl, ap, sym, ◌∙◌, subst}
use mathlib.Core.List.{List, []}
use native.Mathlib.Omega.{arith}
use native.Mathlib.Nat.{div-add-mod', mod-lt, div-lt_iff_lt-mul}
use lib.Arith.{digits_lt}
use lib.ListN.{length, get_or}
use Rattle.fields.specs.Faults.{Clear}
use Rattle.fields.specs.Field.{Bytes}
use Rattle.encoding.specs.Distinct.{distinct}
use Rattle.encoding.specs.Upto.{upto}
use Rattle.encoding.proofs.UptoLaws.{length_from, get_or-upto, all-upto}
use Rattle.types.specs.declared.Entry.{Entry}
use Rattle.machine.specs.Cells.{class_count, state_array, class_at, entry_at, cell_at}
use Rattle.machine.specs.Rows.{row_count}
use Rattle.machine.specs.Machine.{machine_fault}
use Rattle.machine.proofs.Laws.{row_count-least, rows-two, rows-most, classes-least, classes-most, class-below, cell_below, flags-fit}
use Rattle.meaning.specs.Discrete.{Entry-discrete}
use Rattle.meaning.specs.Limits.{OkEntry, Closed, OkMachine}
use Rattle.table.specs.Means.{cell_by, machine_at}
use Rattle.table_laws.proofs.Few.{Below, few-distinct}

module _ (t : List ℕ) (here : ℕ) where
  -- cells counted row by row are the cells of rows and classes
  cell-by : (row class : ℕ) → cell_by t here (row * class_count t here + class) ≡ cell_at t here row class
  unfolding cell_by cell_at
  cell-by row class =
      let p : state_array t here + (row * class_count t here + class) ≡ state_array t here + row * class_count t here + class = omega arith in
      ap (λ (q : ℕ). entry_at t here (get_or t q 0)) p

  cell-of : (k : ℕ) → cell_by t here k ≡ cell_at t here (k / class_count t here) (k % class_count t here)
  cell-of k = ap (cell_by t here) (sym (div-add-mod' k (class_count t here))) ∙ cell-by _ _

  -- stored entry numbers are bytes
  few : (m n : ℕ) → Bytes t → m ≡ 256 → length (distinct Entry-discrete [] (upto (cell_by t here) n)) ≤ m
  unfolding cell_by
  few m n w e =
      few-distinct Entry-discrete (entry_at t here) m (upto (cell_by t here) n)
      (all-upto (cell_by t here) (Below Entry-discrete (entry_at t here) m) n (λ k _. (get_or t (state_array t here + k) 0, omega (arith, w (state_array t here + k)), refl)))

module _ (t : List ℕ) (n here : ℕ) (w : Bytes t) (e : machine_fault t n here ≡ Clear) where
  entry-ok : (k : ℕ) → k < row_count t here * class_count t here → OkEntry (row_count t here) (cell_by t here k)
  entry-ok k h =
      let some : 0 < class_count t here = omega (arith, classes-least t n here e) in
      let row : k / class_count t here < row_count t here = (div-lt_iff_lt-mul some).1 h in
      subst (OkEntry (row_count t here)) (sym (cell-of t here k)) (cell_below t n here e _ _ row (mod-lt k some), flags-fit t here _ _ w)

  least-ok : (m : ℕ) → 2 ≤ m → m < row_count t here → Closed (class_count t here) (upto (cell_by t here) (row_count t here * class_count t here)) m → ⊥
  least-ok m h l c = omega (arith, (row_count-least t n here e).least m h (λ row class a b. leads row class a b))
    where
      leads : (row class : ℕ) → row < m → class < class_count t here → (cell_at t here row class).row < m
      leads row class a b =
          subst (λ (x : Entry). x.row < m)
          (get_or-upto (cell_by t here) (row_count t here * class_count t here) _ (record { row = 0; flags = 0 }) (digits_lt (omega arith) b) ∙ cell-by t here row class)
          (c (row * class_count t here + class) (digits_lt a b))

  -- the machine that is read keeps its limits
  pub machine-ok : OkMachine n (machine_at t n here)
  unfolding machine_at
  machine-ok =
      record {
        some-rows = rows-two t n here e;
        few-rows = rows-most t n here e;
        some-classes = classes-least t n here e;
        few-classes = classes-most t n here e;
        column-count = length_from (class_at t here) n 0;
        columns = all-upto (class_at t here) (λ (c : ℕ). c < class_count t here) n (class-below t n here e);
        cell-count = length_from (cell_by t here) (row_count t here * class_count t here) 0;
        cells = all-upto (cell_by t here) (OkEntry (row_count t here)) (row_count t here * class_count t here) entry-ok;
        least = least-ok;
        few-entries = few t here 256 (row_count t here * class_count t here) w refl;
      }
