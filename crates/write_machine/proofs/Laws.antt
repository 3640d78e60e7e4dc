-- The four sections of a machine by their parts as they are stored.
use Prim.Native.Nat.{ℕ, ◌+◌, ◌-◌, ◌*◌, ◌≤◌, ◌<◌, ◌^◌, min}
use mathlib.Core.Path.{◌≡◌, refl, sym, ap, ap₂, ◌∙◌}
use mathlib.Core.Option.{none, some}
use mathlib.Core.List.{List, [], ◌∷◌, ◌++◌, append_assoc}
use native.Mathlib.Omega.{arith}
use native.Mathlib.Nat.{mul-le-mul}
use lib.ListN.{length, get_or, replicate, length-append}
use native.Mathlib.Decide.{ℕ_discrete, dec_lt}
use borrow.Author.Tests.{eq-eqb, ne_eqb, le-leb, lt-leb, lt-ltb, le-ltb}
use Rattle.fields.specs.Faults.{Clear}
use Rattle.fields.specs.Field.{u16_at, be32}
use Rattle.encoding.specs.Runs.{Run, runs}
use Rattle.encoding.specs.Upto.{from, upto}
use Rattle.encoding.proofs.UptoLaws.{length_from, get_or-from}
use Rattle.encoding.specs.Sections.{run_section, distinct_section, number_section, numbered}
use Rattle.meaning.specs.Discrete.{Entry-discrete}
use Rattle.meaning.specs.Sheet.{entry_code}
use Rattle.machine.specs.Cells.{class_count, class_table, class_at, state_array, entry_at}
use Rattle.machine.specs.Rows.{row_count}
use Rattle.machine.specs.Classes.{ClassesAt}
use Rattle.machine.specs.declared.ClassTable.{ClassTable}
use Rattle.machine.specs.Machine.{machine_fault}
use Rattle.machine.proofs.Laws.{rows-most, classes-most, classes-least}
use Rattle.table.specs.Means.{cell_by, machine_at, machine_of}
use Rattle.table.specs.Table.{machine_part}
use Rattle.table.proofs.Laws.{present-some}
use Rattle.write_glyphs.proofs.Laws.{map-from}
use Rattle.write_runs.proofs.Laws.{runs-pass, runs-first}
use Rattle.write_runs.proofs.Stretch.{from-stretch}
use Rattle.write_entries.specs.Entries.{stored_at, stored_entries, entry_bytes}
use Rattle.write_machine.specs.Parts.{machine_parts, machine_bytes, OneClass}

few-cells : (rows classes : ℕ) → rows ≤ 256 → classes ≤ 255 → rows * classes < 2 ^ 16
few-cells rows classes h k = omega (arith, mul-le-mul {n₁ = rows} {m₁ = classes} {n₂ = 256} {m₂ = 255} h k)

-- a machine without fault has few rows, classes and cells
pub few-of : (t : List ℕ) (n here rows classes : ℕ) → machine_fault t n here ≡ Clear → rows ≡ row_count t here → classes ≡ class_count t here
    → (rows < 2 ^ 32) × (0 < classes) × (rows * classes < 2 ^ 16)
few-of t n here rows classes h er ec =
    let r = rows-most t n here h in
    let c = classes-most t n here h in
    (omega arith, omega (arith, classes-least t n here h), few-cells rows classes (omega arith) (omega arith))

-- ---- none

pub none-parts : machine_parts none ≡ be32 0 ++ be32 0 ++ be32 0 ++ be32 0
unfolding machine_parts
none-parts = refl

-- ---- a machine

cells_are : (t : List ℕ) (here n : ℕ) → stored_entries t here (stored_at t here n) ≡ upto (cell_by t here) n
unfolding stored_at cell_by
cells_are t here n =
    map-from (λ (k : ℕ). get_or t (state_array t here + k) 0) (entry_at t here) (λ (k : ℕ). entry_at t here (get_or t (state_array t here + k) 0)) (λ k. refl) n 0

module _ (t : List ℕ) (n here : ℕ) where
  entries-are : (k : ℕ) → entry_bytes t here k ≡ numbered Entry-discrete entry_code (upto (cell_by t here) k)
  unfolding entry_bytes
  entries-are k = ap (numbered Entry-discrete entry_code) (cells_are t here k)

  -- the classes and the number of cells as the code has them
  pub some-parts : (xs : List ℕ) (k : ℕ) → xs ≡ upto (class_at t here) n → k ≡ row_count t here * class_count t here
      → (be32 1 ++ be32 (row_count t here) ++ be32 (class_count t here)) ++ (run_section 1 xs ++ entry_bytes t here k) ≡ machine_parts (some (machine_at t n here))
  unfolding machine_parts machine_at
  some-parts xs k ex ek =
      let sizes = be32 1 ++ be32 (row_count t here) ++ be32 (class_count t here) in
      let cells = upto (cell_by t here) (row_count t here * class_count t here) in
      ap₂ (λ (a b : List ℕ). sizes ++ (a ++ b)) (ap (run_section 1) ex)
      (entries-are k ∙ ap (λ (m : ℕ). numbered Entry-discrete entry_code (upto (cell_by t here) m)) ek)
      ∙ ap (λ (l : List ℕ). sizes ++ l)
      (sym (append_assoc (run_section 1 (upto (class_at t here) n)) (distinct_section Entry-discrete entry_code cells) (number_section Entry-discrete cells)))

  pub some-length : (xs : List ℕ) (k : ℕ) → xs ≡ upto (class_at t here) n → k ≡ row_count t here * class_count t here
      → length (machine_parts (some (machine_at t n here))) ≡ 12 + length (run_section 1 xs) + length (entry_bytes t here k)
  some-length xs k ex ek = omega (arith, ap length (some-parts xs k ex ek), length-append (run_section 1 xs) (entry_bytes t here k))

-- ---- by the offset

module _ (t : List ℕ) (n offset : ℕ) where
  pub bytes-none : offset ≡ 0 → machine_bytes t n offset ≡ be32 0 ++ be32 0 ++ be32 0 ++ be32 0
  unfolding machine_bytes machine_of
  bytes-none e = simp (eq-eqb offset 0 e) none-parts

  pub bytes-some : (offset ≡ 0 → ⊥) → machine_bytes t n offset ≡ machine_parts (some (machine_at t n (offset + 8)))
  unfolding machine_bytes machine_of
  bytes-some e = simp (ne_eqb offset 0 e)

  pub machine-clear : (offset ≡ 0 → ⊥) → machine_part t n offset ≡ Clear → machine_fault t n (offset + 8) ≡ Clear
  unfolding machine_part
  machine-clear e f = sym (present-some offset (machine_fault t n (offset + 8)) e) ∙ f

pub ruleset by_offset = (bytes-none, bytes-some, machine-clear)

-- ---- the classes of glyphs in a row

module _ (t : List ℕ) (here : ℕ) (c : ClassTable) (w : ClassesAt t here c) where
  abbrev first : ℕ
  first = c.first

  abbrev past : ℕ
  past = c.first + c.count

  first-is : first ≡ u16_at t (class_table t here)
  first-is = w.first

  past-is : past ≡ u16_at t (class_table t here) + u16_at t (class_table t here + 2)
  past-is = ap₂ (λ (x y : ℕ). x + y) w.first w.count

  class-in : (g : ℕ) → first ≤ g → g < past → class_at t here g ≡ get_or t (c.at + 4 + (g - first)) 0
  unfolding class_at
  class-in g a b =
      simp (le-leb (u16_at t (class_table t here)) g (omega (arith, first-is, a)), lt-ltb g (u16_at t (class_table t here) + u16_at t (class_table t here + 2)) (omega (arith, past-is, b)))
      (ap₂ (λ (x y : ℕ). get_or t (x + 4 + (g - y)) 0) (sym w.at) (sym first-is))

  class-out : (g : ℕ) → (first ≤ g → g < past → ⊥) → class_at t here g ≡ 1
  unfolding class_at
  class-out g n = go (dec_lt g (u16_at t (class_table t here)))
    where
      go : Dec (g < u16_at t (class_table t here)) → class_at t here g ≡ 1
      go (yes l) = simp (lt-leb (u16_at t (class_table t here)) g l)
      go (no l) =
          simp (le-leb (u16_at t (class_table t here)) g (omega (arith, l)), le-ltb g (u16_at t (class_table t here) + u16_at t (class_table t here + 2)) (omega (arith, past-is, past_le (dec_lt g past))))
        where
          past_le : Dec (g < past) → past ≤ g
          past_le (yes q) = absurd (n (omega (arith, first-is, l)) q)
          past_le (no q) = omega (arith, q)

  module _ (n glyph : ℕ) (h : glyph < n) where
    pub class-after : past ≤ glyph → OneClass t n here glyph n
    class-after b =
        record {
          more = h;
          most = omega arith;
          same = λ g p q. class-out g (λ x y. omega arith) ∙ sym (class-out glyph (λ x y. omega arith));
          other = λ k l e. absurd (omega arith);
        }

    pub class-before : glyph < first → OneClass t n here glyph (min first n)
    class-before b =
        record {
          more = omega arith;
          most = omega arith;
          same = λ g p q. class-out g (λ x y. omega arith) ∙ sym (class-out glyph (λ x y. omega arith));
          other = λ k l e. absurd (k (class-out glyph (λ x y. omega arith)));
        }

    pub class-within : (r : ℕ) → first ≤ glyph → glyph < past → 0 < r → r ≤ min past n - glyph
        → ((k : ℕ) → k < r → get_or t (c.at + 4 + (glyph - first) + k) 0 ≡ get_or t (c.at + 4 + (glyph - first)) 0)
        → (r < min past n - glyph → get_or t (c.at + 4 + (glyph - first) + r) 0 ≡ get_or t (c.at + 4 + (glyph - first)) 0 → ⊥) → OneClass t n here glyph (glyph + r)
    class-within r a b d l e f =
        record {
          more = omega arith;
          most = omega arith;
          same = λ g p q.
              let s : c.at + 4 + (glyph - first) + (g - glyph) ≡ c.at + 4 + (g - first) = omega arith in
              class-in g (omega arith) (omega arith) ∙ ap (λ (x : ℕ). get_or t x 0) (sym s) ∙ e (g - glyph) (omega arith) ∙ sym (class-in glyph a b);
          other = λ k l q. ends k l q (dec_lt (glyph + r) past);
        }
      where
        ends : (class_at t here glyph ≡ 1 → ⊥) → glyph + r < n → class_at t here (glyph + r) ≡ class_at t here glyph → Dec (glyph + r < past) → ⊥
        ends k l q (yes z) =
            let s : c.at + 4 + (glyph - first) + r ≡ c.at + 4 + (glyph + r - first) = omega arith in
            f (omega arith) (ap (λ (x : ℕ). get_or t x 0) s ∙ sym (class-in (glyph + r) (omega arith) z) ∙ q ∙ class-in glyph a b)
        ends k l q (no z) = k (sym q ∙ class-out (glyph + r) (λ x y. z y))

-- ---- the runs from a glyph on

abbrev pub runs_from : List ℕ → ℕ → ℕ → ℕ → List (Run ℕ)
runs_from t n here glyph = runs ℕ_discrete 1 glyph (from (class_at t here) (n - glyph) glyph)

module _ (t : List ℕ) (n here glyph end : ℕ) (w : OneClass t n here glyph end) where
  abbrev rest : List ℕ
  rest = from (class_at t here) (n - end) end

  stretch : from (class_at t here) (n - glyph) glyph ≡ replicate (end - glyph) (class_at t here glyph) ++ rest
  stretch = from-stretch (class_at t here) n glyph end (class_at t here glyph) (omega (arith, w.more)) w.most w.same

  pub class-skipped : class_at t here glyph ≡ 1 → runs_from t n here glyph ≡ runs_from t n here end
  class-skipped e =
      ap (runs ℕ_discrete 1 glyph) (stretch ∙ ap (λ (v : ℕ). replicate (end - glyph) v ++ rest) e) ∙ runs-pass 1 glyph end rest w.more

  pub class-taken : (class_at t here glyph ≡ 1 → ⊥)
      → runs_from t n here glyph ≡ record { first = glyph; last = end - 1; value = class_at t here glyph } ∷ runs_from t n here end
  class-taken h =
      ap (runs ℕ_discrete 1 glyph) stretch
      ∙ runs-first 1 glyph end (class_at t here glyph) rest w.more h
      (λ z e.
      let l : end < n = omega (arith, z, length_from (class_at t here) (n - end) end) in
      let q : end + 0 ≡ end = omega arith in
      w.other h l (sym (get_or-from (class_at t here) (n - end) end 0 0 (omega arith) ∙ ap (class_at t here) q) ∙ e))

pub class-done : (t : List ℕ) (n here glyph : ℕ) → n ≤ glyph → runs_from t n here glyph ≡ []
unfolding from
class-done t n here glyph h = let z : n - glyph ≡ 0 = omega arith in ap (λ (k : ℕ). runs ℕ_discrete 1 glyph (from (class_at t here) k glyph)) z
