-- The differences of machines by place.
use Prim.Native.Nat.{ℕ, ◌+◌, ◌-◌, ◌*◌, ◌<◌}
use mathlib.Core.Path.{◌≡◌, sym, ap, ap₂, ◌∙◌}
use mathlib.Core.Bool.{Bool, true, false, cond, ◌&&◌}
use mathlib.Core.List.{List, [], ◌++◌}
use mathlib.Core.Option.{Option, none, some}
use Rattle.std.specs.Prelude.{Some}
use native.Mathlib.Omega.{arith}
use native.Mathlib.Decide.{ℕ_discrete}
use lib.Arith.{digits_lt}
use lib.Dec.{eqb, ltb}
use lib.ListN.{get_or, get_elem?}
use borrow.Author.Tests.{eq-eqb, ne_eqb, lt-ltb}
use Rattle.fields.specs.Faults.{Clear}
use Rattle.encoding.specs.Upto.{upto}
use Rattle.encoding.proofs.UptoLaws.{elem-upto}
use Rattle.types.specs.declared.Entry.{Entry}
use Rattle.meaning.specs.Meaning.{Machine}
use Rattle.meaning.specs.Ask.{cell_of}
use Rattle.meaning.specs.Discrete.{Entry-discrete}
use Rattle.machine.specs.Cells.{class_count, class_at, cell_at, entry_at, state_array}
use Rattle.machine.specs.declared.ClassTable.{ClassTable}
use Rattle.machine.specs.Classes.{ClassesAt}
use Rattle.machine.specs.Rows.{row_count}
use Rattle.machine.proofs.Steps.{class-before, class-after}
use Rattle.machine.specs.Machine.{machine_fault}
use Rattle.table.specs.Table.{present, machine_part}
use Rattle.table.specs.Means.{machine_at, machine_of}
use Rattle.table.specs.Means as means
use Rattle.diff_rule.specs.declared.Aspect.TheVariants.{Sizes, Class, Cell}
use Rattle.diff_rule.specs.declared.Mark.TheVariants.{Changed}
use Rattle.diff_rule.specs.declared.Difference.{Difference}
use Rattle.diff_rule.specs.Differences.{mark_of, noted, through, classes_differ, cells_differ}
use Rattle.diff_rule.proofs.Marks.{mark-same}
use Rattle.diff_rule.proofs.Through.{through_same}
use Rattle.diff_rule.proofs.Filled.{through-within}
use Rattle.diff_machine.specs.declared.Machines.{Machines}
use Rattle.std.specs.declared.ops.Range.{Range}
use Rattle.diff_machine.specs.Machines.{SizesAt, Spans, class_differs, classes_by, cell_differs, row_by, cells_by, machines_by}

module _ (t u : List ℕ) (m : Machines) where
  class-equal : (x : ℕ) → class_at t m.first x ≡ 1 → class_at u m.second x ≡ 1 → class_differs t u m x ≡ []
  class-equal x p q = ap (noted m.direction Class x 0) (sym (mark-same ℕ_discrete (class_at t m.first x) (class_at u m.second x) (p ∙ sym q)))

  -- glyphs that neither class table covers are of class 1 in both
  pub classes-whole : (ones others : ClassTable) (span : Range ℕ) → ClassesAt t m.first ones → ClassesAt u m.second others
      → Spans ones others m.glyphs span → through (class_differs t u m) (span.end - span.start) span.start ≡ classes_by t u m
  unfolding classes_by
  classes-whole ones others span w v s =
      sym (through-within (class_differs t u m) m.glyphs span.start span.end s.rises s.most
      (λ x l. class-equal x (class-before t m.first x (omega (arith, w.first, (s.low x l).0))) (class-before u m.second x (omega (arith, v.first, (s.low x l).1))))
      (λ x l k. class-equal x
      (class-after t m.first x (omega (arith, w.first, (s.high x l k).0)) (omega (arith, w.first, w.count, (s.high x l k).0)))
      (class-after u m.second x (omega (arith, v.first, (s.high x l k).1)) (omega (arith, v.first, v.count, (s.high x l k).1)))))

-- ---- machines of tables

cell-place : (t : List ℕ) (here row class : ℕ) → means.cell_by t here (row * class_count t here + class) ≡ cell_at t here row class
unfolding means.cell_by cell_at
cell-place t here row class =
    let p : state_array t here + (row * class_count t here + class) ≡ state_array t here + row * class_count t here + class = omega arith in
    ap (λ (q : ℕ). entry_at t here (get_or t q 0)) p

cell-read : (t : List ℕ) (n here r c : ℕ) → r < row_count t here → c < class_count t here → cell_of (machine_at t n here) r c ≡ some (cell_at t here r c)
unfolding machine_at
cell-read t n here r c h k =
    let i : ℕ = r * class_count t here + c in
    let b : (ltb r (row_count t here) && ltb c (class_count t here)) ≡ true = ap₂ (λ (x y : Bool). x && y) (lt-ltb r (row_count t here) h) (lt-ltb c (class_count t here) k) in
    ap (λ (x : Bool). cond x (get_elem? (upto (means.cell_by t here) (row_count t here * class_count t here)) i) none) b
    ∙ elem-upto (means.cell_by t here) (row_count t here * class_count t here) i (digits_lt h k)
    ∙ ap some (cell-place t here r c)

module _ (t u : List ℕ) (m : Machines) where
  abbrev one : Machine
  one = machine_at t m.glyphs m.first

  abbrev other : Machine
  other = machine_at u m.glyphs m.second

  abbrev rows : ℕ
  rows = row_count t m.first

  abbrev classes : ℕ
  classes = class_count t m.first

  abbrev parts : List Difference
  parts = classes_differ m.direction m.glyphs one other ++ cells_differ m.direction one other

  abbrev same_rows : Bool
  same_rows = eqb rows (row_count u m.second)

  abbrev same-classes : Bool
  same-classes = eqb classes (class_count u m.second)

  classes-differ : classes_differ m.direction m.glyphs one other ≡ classes_by t u m
  unfolding classes_differ classes_by machine_at
  classes-differ =
      through_same (λ g. noted m.direction Class g 0 (mark_of ℕ_discrete (get_elem? (upto (class_at t m.first) m.glyphs) g) (get_elem? (upto (class_at u m.second) m.glyphs) g)))
      (class_differs t u m) m.glyphs 0
      (λ g h l. ap₂ (λ (x y : Option ℕ). noted m.direction Class g 0 (mark_of ℕ_discrete x y)) (elem-upto (class_at t m.first) m.glyphs g (omega arith)) (elem-upto (class_at u m.second) m.glyphs g (omega arith)))

  sizes-apart : (same_rows && same-classes) ≡ false → noted m.direction Sizes 0 0 (Some Changed) ≡ machines_by t u m
  unfolding machine_at
  sizes-apart b = ap (λ (x : Bool). cond x parts (noted m.direction Sizes 0 0 (Some Changed))) (sym b)

  module _ (s : SizesAt t m) where
    pub rows_apart : (m.rows ≡ row_count u m.second → ⊥) → noted m.direction Sizes 0 0 (Some Changed) ≡ machines_by t u m
    rows_apart h = sizes-apart (ap (λ (x : Bool). x && same-classes) (ne_eqb rows (row_count u m.second) (λ q. h (s.rows ∙ q))))

    module _ (er : m.rows ≡ row_count u m.second) where
      rows_same : same_rows ≡ true
      rows_same = eq-eqb rows (row_count u m.second) (sym s.rows ∙ er)

      pub classes-apart : (m.classes ≡ class_count u m.second → ⊥) → noted m.direction Sizes 0 0 (Some Changed) ≡ machines_by t u m
      classes-apart h = sizes-apart (ap₂ (λ (x y : Bool). x && y) rows_same (ne_eqb classes (class_count u m.second) (λ q. h (s.classes ∙ q))))

      module _ (ec : m.classes ≡ class_count u m.second) where
        cell-differs : (r c : ℕ) → r < m.rows → c < m.classes → noted m.direction Cell r c (mark_of Entry-discrete (cell_of one r c) (cell_of other r c)) ≡ cell_differs t u m r c
        cell-differs r c h k =
            ap₂ (λ (x y : Option Entry). noted m.direction Cell r c (mark_of Entry-discrete x y))
            (cell-read t m.glyphs m.first r c (omega (arith, s.rows)) (omega (arith, s.classes))) (cell-read u m.glyphs m.second r c (omega arith) (omega arith))

        row-differs : (r : ℕ) → r < m.rows → through (λ c. noted m.direction Cell r c (mark_of Entry-discrete (cell_of one r c) (cell_of other r c))) m.classes 0 ≡ row_by t u m r
        unfolding row_by
        row-differs r h =
            through_same (λ c. noted m.direction Cell r c (mark_of Entry-discrete (cell_of one r c) (cell_of other r c))) (cell_differs t u m r) m.classes 0
            (λ c a l. cell-differs r c h (omega arith))

        cells-differ : cells_differ m.direction one other ≡ cells_by t u m
        unfolding cells_differ cells_by machine_at
        cells-differ =
            ap₂ (λ (x y : ℕ). through (λ r. through (λ c. noted m.direction Cell r c (mark_of Entry-discrete (cell_of one r c) (cell_of other r c))) y 0) x 0) (sym s.rows) (sym s.classes)
            ∙ through_same (λ r. through (λ c. noted m.direction Cell r c (mark_of Entry-discrete (cell_of one r c) (cell_of other r c))) m.classes 0)
            (row_by t u m) m.rows 0 (λ r a l. row-differs r (omega arith))

        pub both-same : classes_by t u m ++ cells_by t u m ≡ machines_by t u m
        unfolding machine_at
        both-same =
            let b : (same_rows && same-classes) ≡ true = ap₂ (λ (x y : Bool). x && y) rows_same (eq-eqb classes (class_count u m.second) (sym s.classes ∙ ec)) in
            ap₂ (λ (x y : List Difference). x ++ y) (sym classes-differ) (sym cells-differ)
            ∙ ap (λ (x : Bool). cond x parts (noted m.direction Sizes 0 0 (Some Changed))) (sym b)

-- ---- a machine, or none

module _ (t : List ℕ) (n offset : ℕ) where
  pub of_none : offset ≡ 0 → none ≡ machine_of t n offset
  unfolding machine_of
  of_none e = ap (λ (b : Bool). cond b none (some (machine_at t n (offset + 8)))) (sym (eq-eqb offset 0 e))

  pub of_some : (offset ≡ 0 → ⊥) → some (machine_at t n (offset + 8)) ≡ machine_of t n offset
  unfolding machine_of
  of_some e = ap (λ (b : Bool). cond b none (some (machine_at t n (offset + 8)))) (sym (ne_eqb offset 0 e))

  pub part-some : (offset ≡ 0 → ⊥) → machine_part t n offset ≡ Clear → machine_fault t n (offset + 8) ≡ Clear
  unfolding machine_part present
  part-some e w = ap (λ (b : Bool). cond b Clear (machine_fault t n (offset + 8))) (sym (ne_eqb offset 0 e)) ∙ w
