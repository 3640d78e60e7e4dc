-- What the reader of sections 1 to 4 concludes.
use Prim.Native.Nat.{ℕ, ◌+◌, ◌≤◌, ◌<◌, ◌^◌}
use mathlib.Core.Path.{◌≡◌, refl, sym, ap, ◌∙◌, subst}
use mathlib.Core.Option.{none, some}
use mathlib.Core.List.{List, ◌++◌}
use native.Mathlib.Omega.{arith}
use Rattle.std.specs.Prelude.{Option, Some, None}
use lib.ListN.{length, drop, length-append, length-drop}
use Rattle.fields.specs.Field.{be32, u32_at, Bytes}
use Rattle.fields.proofs.Laws.{u32_at-fits}
use Rattle.encoding.specs.Codes.{PrefixFree, Found, Absent}
use Rattle.encoding.specs.Sections.{run_section, numbered}
use Rattle.encoding.proofs.CodeLaws.{be32-at, be32-free}
use Rattle.encoding.proofs.ReadLaws.{first_absent, second-absent, both_found}
use Rattle.encoding.proofs.SectionLaws.{run-section-free}
use Rattle.sheet_sections.specs.Section.{Parses}
use Rattle.sheet_sections.specs.RunSection.{Below}
use Rattle.sheet_sections.proofs.SectionLaws.{field32}
use Rattle.meaning.specs.Discrete.{Entry-discrete}
use Rattle.meaning.specs.Meaning.{Machine}
use Rattle.meaning.specs.Limits.{OkMachine, OkMaybe}
use Rattle.meaning.specs.Sheet.{entry_code, machine_bytes}
use Rattle.sheet_machine.specs.Machine.{OkLeast, within_bytes, OkWithin, NoMachine, OneMachine}

-- ---- sections 2 to 4, one after another

module _ (glyphs rows classes : ℕ) (hg : glyphs < 2 ^ 16) (hc : classes ≤ 255) (s : List ℕ) (at : ℕ) where
  columns-free : PrefixFree (run_section 1) (Below glyphs classes)
  columns-free = run-section-free 1 glyphs classes (omega arith) (omega arith)

  pub within_none : Absent (run_section 1) (Below glyphs classes) s at → Absent within_bytes (OkWithin glyphs rows classes) s at
  within_none =
      first_absent (run_section 1) (Below glyphs classes) columns-free (λ ks cs. numbered Entry-discrete entry_code cs) (λ ks cs. OkLeast rows classes cs) s at

  pub within-parse : (q : ℕ) → Found (run_section 1) (Below glyphs classes) s at q → (r : Option ℕ)
      → Parses (numbered Entry-discrete entry_code) (OkLeast rows classes) s q r → Parses within_bytes (OkWithin glyphs rows classes) s at r
  within-parse q f (Some t) h =
      both_found (run_section 1) (Below glyphs classes) columns-free (λ ks cs. numbered Entry-discrete entry_code cs) (λ ks cs. OkLeast rows classes cs) s at q f t h
  within-parse q f None h =
      second-absent (run_section 1) (Below glyphs classes) columns-free (λ ks cs. numbered Entry-discrete entry_code cs) (λ ks cs. OkLeast rows classes cs) s at q f h

-- ---- section 1

-- the sections of a machine that stands at a place
record Opened (glyphs : ℕ) (s : List ℕ) (at : ℕ) (m : Machine) (rest : List ℕ) : Type 0 where
  room : at + 12 ≤ length s
  one : u32_at s at ≡ 1
  rows : u32_at s (at + 4) ≡ m.rows
  classes : u32_at s (at + 8) ≡ m.classes
  within : drop (at + 12) s ≡ within_bytes (m.columns, m.cells) ++ rest

within-ok : (glyphs : ℕ) (m : Machine) → OkMachine glyphs m → OkWithin glyphs m.rows m.classes (m.columns, m.cells)
within-ok glyphs m h = ((h.column-count, h.columns), ((h.cell-count, h.cells, h.few-entries), h.least))

module _ (s : List ℕ) (bytes : Bytes s) where
  -- a number that is written first stands there
  number : (p q x : ℕ) (t : List ℕ) → q ≡ p + 4 → x < 2 ^ 32 → drop p s ≡ be32 x ++ t → (q ≤ length s) × (u32_at s p ≡ x) × (drop q s ≡ t)
  number p q x t eq h e =
      let room : p + 4 ≤ length s = omega (arith, ap length e, length-drop p s, length-append (be32 x) t) in
      let g = be32-free (u32_at s p) x (drop (p + 4) s) t (u32_at-fits s p bytes) h (sym (be32-at s bytes p room) ∙ e) in
      (omega arith, g.0, ap (λ (k : ℕ). drop k s) eq ∙ g.1)

  -- and one that stands there is written first
  stands : (p q x : ℕ) → q ≡ p + 4 → q ≤ length s → u32_at s p ≡ x → drop p s ≡ be32 x ++ drop q s
  stands p q x eq room e = field32 s bytes p q eq room ∙ ap (λ (k : ℕ). be32 k ++ drop q s) e

  module _ (glyphs at : ℕ) where
    opened-none : (rest : List ℕ) → drop at s ≡ machine_bytes none ++ rest → NoMachine s at
    opened-none rest e =
        let a = number at (at + 4) 0 _ refl (omega arith) e in
        let b = number (at + 4) (at + 8) 0 _ (omega arith) (omega arith) a.2 in
        let c = number (at + 8) (at + 12) 0 _ (omega arith) (omega arith) b.2 in
        let d = number (at + 12) (at + 16) 0 rest (omega arith) (omega arith) c.2 in
        record { room = d.0; no-machine = a.1; no-runs = b.1; no-entries = c.1; no_cells = d.1 }

    opened_one : (m : Machine) (rest : List ℕ) → OkMachine glyphs m → drop at s ≡ machine_bytes (some m) ++ rest → Opened glyphs s at m rest
    opened_one m rest h e =
        let w = within_bytes (m.columns, m.cells) ++ rest in
        let a = number at (at + 4) 1 (be32 m.rows ++ (be32 m.classes ++ w)) refl (omega arith) e in
        let b = number (at + 4) (at + 8) m.rows (be32 m.classes ++ w) (omega arith) (omega (arith, h.few-rows)) a.2 in
        let c = number (at + 8) (at + 12) m.classes w (omega arith) (omega (arith, h.few-classes)) b.2 in
        record { room = c.0; one = a.1; rows = b.1; classes = c.1; within = c.2 }

    one-sizes : (m : Machine) (rest : List ℕ) → OkMachine glyphs m → Opened glyphs s at m rest → OneMachine s at
    one-sizes m rest h o =
        record {
          room = o.room;
          one = o.one;
          sizes =
              record {
                some-rows = omega (arith, o.rows, h.some-rows);
                few-rows = omega (arith, o.rows, h.few-rows);
                some-classes = omega (arith, o.classes, h.some-classes);
                few-classes = omega (arith, o.classes, h.few-classes);
              };
        }

    pub machine-none : NoMachine s at → Found machine_bytes (OkMaybe glyphs) s at (at + 16)
    machine-none z = (
      none,
      tt,
      z.room,
      stands at (at + 4) 0 refl (omega (arith, z.room)) z.no-machine
          ∙ ap (λ (l : List ℕ). be32 0 ++ l) (stands (at + 4) (at + 8) 0 (omega arith) (omega (arith, z.room)) z.no-runs
          ∙ ap (λ (l : List ℕ). be32 0 ++ l) (stands (at + 8) (at + 12) 0 (omega arith) (omega (arith, z.room)) z.no-entries
          ∙ ap (λ (l : List ℕ). be32 0 ++ l) (stands (at + 12) (at + 16) 0 (omega arith) z.room z.no_cells))),
    )

    pub machine-absent : (NoMachine s at → ⊥) → (OneMachine s at → ⊥) → Absent machine_bytes (OkMaybe glyphs) s at
    machine-absent h k none rest o e = h (opened-none rest e)
    machine-absent h k (some m) rest o e = k (one-sizes m rest o (opened_one m rest o e))

    module _ (one : OneMachine s at) (rows classes : ℕ) (er : rows ≡ u32_at s (at + 4)) (ec : classes ≡ u32_at s (at + 8)) where
      pub machine-parse : (r : Option ℕ) → Parses within_bytes (OkWithin glyphs rows classes) s (at + 12) r → Parses machine_bytes (OkMaybe glyphs) s at r
      machine-parse (Some q) f =
          let o = f.1 in (
            some (record { rows = rows; classes = classes; columns = f.0.0; cells = f.0.1 }),
            record {
              some-rows = omega (arith, er, one.sizes.some-rows);
              few-rows = omega (arith, er, one.sizes.few-rows);
              some-classes = omega (arith, ec, one.sizes.some-classes);
              few-classes = omega (arith, ec, one.sizes.few-classes);
              column-count = o.0.0;
              columns = o.0.1;
              cell-count = o.1.0.0;
              cells = o.1.0.1;
              least = o.1.1;
              few-entries = o.1.0.2;
            },
            f.2,
            stands at (at + 4) 1 refl (omega (arith, one.room)) one.one
                ∙ ap (λ (l : List ℕ). be32 1 ++ l) (stands (at + 4) (at + 8) rows (omega arith) (omega (arith, one.room)) (sym er)
                ∙ ap (λ (l : List ℕ). be32 rows ++ l) (stands (at + 8) (at + 12) classes (omega arith) one.room (sym ec)
                ∙ ap (λ (l : List ℕ). be32 classes ++ l) f.3)),
          )
      machine-parse None h = none-there
        where
          none-there : Absent machine_bytes (OkMaybe glyphs) s at
          none-there none rest o e = omega (arith, (opened-none rest e).no-machine, one.one)
          none-there (some m) rest o e =
              let x = opened_one m rest o e in
              h (m.columns, m.cells) rest
              (subst (λ (k : ℕ). OkWithin glyphs k classes (m.columns, m.cells)) (sym (er ∙ x.rows))
              (subst (λ (k : ℕ). OkWithin glyphs m.rows k (m.columns, m.cells)) (sym (ec ∙ x.classes)) (within-ok glyphs m o)))
              x.within
