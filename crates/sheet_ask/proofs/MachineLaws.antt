-- The answers about N and a machine, from what stands in section 1 and after it.
use Prim.Native.Nat.{ℕ, zero, suc, ◌+◌, ◌*◌, ◌%◌, ◌≤◌, ◌<◌, ◌^◌}
use mathlib.Core.Path.{◌≡◌, refl, sym, ap, ap₂, ◌∙◌, subst}
use mathlib.Core.Bool.{Bool, true, false, cond, ◌&&◌}
use mathlib.Core.Option.{Option, none, some}
use Rattle.std.specs.declared.option.Option as sought
use Rattle.std.specs.Option.{unwrap_or}
use mathlib.Core.List.{List, [], ◌∷◌, ◌++◌, append_assoc}
use native.Mathlib.Decide.{ℕ_discrete}
use native.Mathlib.Omega.{arith}
use native.Mathlib.Nat.{mul-le-mul_right, suc-mul}
use lib.Dec.{ltb}
use lib.ListN.{length, get_or, get_elem?, drop, length-append, length-drop}
use borrow.Author.Tests.{lt-ltb, le-ltb}
use Rattle.fields.specs.Field.{be32, u32_at, Bytes}
use Rattle.fields.proofs.Laws.{u32_at-fits}
use Rattle.encoding.specs.Codes.{All, counted}
use Rattle.encoding.specs.Runs.{Run, runs}
use Rattle.encoding.specs.Sections.{run_code, numbered}
use Rattle.encoding.proofs.CodeLaws.{be32-free, be32-at}
use Rattle.encoding.proofs.ListLaws.{all-at, all_map, elem-none}
use Rattle.encoding.proofs.RunsLaws.{runs-ok, all_runs, ok-few}
use Rattle.encoding.proofs.SectionLaws.{WideRun, run-free, ok-wide}
use Rattle.sheet_sections.specs.Section.{HasItems}
use Rattle.sheet_sections.specs.RunSection.{run_at}
use Rattle.sheet_sections.proofs.RunLaws.{run-wide, run-at}
use Rattle.types.specs.declared.Direction.{Direction}
use Rattle.types.specs.declared.Entry.{Entry}
use Rattle.meaning.specs.Meaning.{Machine, Meaning}
use Rattle.meaning.specs.Discrete.{Entry-discrete}
use Rattle.meaning.specs.Limits.{OkMachine, OkMaybe, Valid}
use Rattle.meaning.specs.Sheet.{sizes_code, entry_code, write, machine_bytes}
use Rattle.meaning.specs.Ask.{glyph_count, along, sizes, class, cell, nothing, number, both, entry, maybe, cell_of, side_of, ask_side, ask}
use Rattle.meaning.specs.Wide.{WideSizes}
use Rattle.std.specs.Prelude.{Ok}
use Rattle.answers.specs.Says.{given, says_cell}
use Rattle.sheet_machine.specs.Machine.{Sizes, ReadableCells}
use Rattle.sheet_machine.proofs.StandLaws.{cells-readable, cell_at}
use Rattle.sheet_cells.specs.Cells.{entry_at, OkCells}
use Rattle.sheet_check.proofs.WholeLaws.{opened-sheet}
use Rattle.sheet_seek.specs.Passes.{Passes, ByGlyphs, after_sizes, after_classes, side_on, clusters_on}
use Rattle.sheet_seek.specs.LookUp.{value_at, ValueIn}
use Rattle.sheet_seek.proofs.PassLaws.{opened, items-there}
use Rattle.sheet_seek.proofs.SideLaws.{valid-side, machine-at}
use Rattle.sheet_seek.proofs.LookUpLaws.{element, items-are}
use Rattle.sheet_ask.specs.Places.{HasMachine, CellIn}

-- a value that was looked up
abbrev pub MaybeValue : Type 0
MaybeValue = sought.Option ℕ

-- what stands below the end
pub at_some : {A : Type 0} (xs : List A) (g : ℕ) (z : A) → g < length xs → get_elem? xs g ≡ some (get_or xs g z)
at_some [] g z h = absurd (omega arith)
at_some (x ∷ xs) zero z h = refl
at_some (x ∷ xs) (suc g) z h = at_some xs g z (omega arith)

-- N
pub count-answer : (s : List ℕ) → Bytes s → (m : Meaning) → Valid m → write m ≡ s → (n : ℕ) → n ≡ u32_at s 0 → given (number n) ≡ given (ask m glyph_count)
unfolding ask
count-answer s bytes m v w n e = ap (λ (k : ℕ). given (number k)) (e ∙ (opened-sheet s bytes m v w).count)

-- a glyph at or past N has no class
pub past-class : (s : List ℕ) → Bytes s → (m : Meaning) → Valid m → write m ≡ s → (d : Direction) (g : ℕ) → u32_at s 0 ≤ g
    → given nothing ≡ given (ask m (along d (class g)))
unfolding ask ask_side
past-class s bytes m v w d g h = ap given (go (side_of d m).machine (valid-side d m v).machine)
  where
    go : (y : Option Machine) → OkMaybe m.glyphs y → nothing ≡ maybe (λ (x : Machine). maybe number (get_elem? x.columns g)) y
    go none o = refl
    go (some x) o = sym (ap (maybe number) (elem-none x.columns g (omega (arith, h, o.column-count, (opened-sheet s bytes m v w).count))))

-- a machine in section 1
record MachineAt (s : List ℕ) (at : ℕ) (x : Machine) : Type 0 where
  room : at + 12 ≤ length s
  one : u32_at s at ≡ 1
  rows : u32_at s (at + 4) ≡ x.rows
  classes : u32_at s (at + 8) ≡ x.classes

module _ (s : List ℕ) (bytes : Bytes s) where
  machine-opened : (n at : ℕ) (x : Machine) (rest : List ℕ) → OkMachine n x → drop at s ≡ machine_bytes (some x) ++ rest → MachineAt s at x
  machine-opened n at x rest o e =
      let t = after_sizes (some x) ++ rest in
      let a = opened sizes_code WideSizes s bytes at ((x.rows, x.classes) ∷ []) t (omega arith) e in
      let room : at + 12 ≤ length s = omega (arith, a.0, ap length a.2, length-drop (at + 4) s, length-append (be32 x.rows ++ be32 x.classes) t) in
      let f = be32-free (u32_at s (at + 4)) x.rows (drop (at + 4 + 4) s) (be32 x.classes ++ t) (u32_at-fits s (at + 4) bytes) (omega (arith, o.few-rows))
      (sym (be32-at s bytes (at + 4) (omega arith)) ∙ a.2) in
      let q : at + 4 + 4 ≡ at + 8 = omega arith in
      let g = be32-free (u32_at s (at + 8)) x.classes (drop (at + 8 + 4) s) t (u32_at-fits s (at + 8) bytes) (omega (arith, o.few-classes))
      (sym (be32-at s bytes (at + 8) (omega arith)) ∙ ap (λ (k : ℕ). drop k s) (sym q) ∙ f.1) in
      record { room = room; one = a.1; rows = f.0; classes = g.0 }

  module _ (m : Meaning) (v : Valid m) (w : write m ≡ s) (d : Direction) (at : ℕ) (h : Passes write (side_on d) Valid s 0 at) where
    ok : OkMaybe m.glyphs (side_of d m).machine
    ok = (valid-side d m v).machine

    stands : drop at s ≡ machine_bytes (side_of d m).machine ++ clusters_on d m
    stands = machine-at s bytes d at h m v w

    -- there is no machine and section 1 says so, or there is one
    cases : {T : Type 0} → ((side_of d m).machine ≡ none → u32_at s at ≡ 0 → T)
        → ((x : Machine) → (side_of d m).machine ≡ some x → OkMachine m.glyphs x → MachineAt s at x → T) → T
    cases {T} f g = go (side_of d m).machine refl
      where
        go : (y : Option Machine) → (side_of d m).machine ≡ y → T
        go none e =
            f e (opened sizes_code WideSizes s bytes at [] (after_sizes none ++ clusters_on d m) (omega arith)
            (stands ∙ ap (λ (y : Option Machine). machine_bytes y ++ clusters_on d m) e)).1
        go (some x) e =
            let o : OkMachine m.glyphs x = subst (OkMaybe m.glyphs) e ok in
            g x e o (machine-opened m.glyphs at x (clusters_on d m) o (stands ∙ ap (λ (y : Option Machine). machine_bytes y ++ clusters_on d m) e))

    -- ---- S and class count

    pub no-sizes : (HasMachine s at → ⊥) → given nothing ≡ given (ask m (along d sizes))
    unfolding ask ask_side
    no-sizes k =
        cases
        (λ e z. ap given (sym (ap (maybe (λ (x : Machine). both x.rows x.classes)) e)))
        (λ x e o a. absurd (k (a.room, (λ z. omega (arith, z, a.one)))))

    pub the_sizes : HasMachine s at → (r c : ℕ) → r ≡ u32_at s (at + 4) % 2 ^ 16 → c ≡ u32_at s (at + 8) % 2 ^ 16
        → given (both r c) ≡ given (ask m (along d sizes))
    unfolding ask ask_side
    the_sizes k r c er ec =
        cases
        (λ e z. absurd (k.1 z))
        (λ x e o a.
        let p : r ≡ x.rows = omega (arith, er, a.rows, o.few-rows) in
        let q : c ≡ x.classes = omega (arith, ec, a.classes, o.few-classes) in
        ap given (ap₂ both p q ∙ sym (ap (maybe (λ (x : Machine). both x.rows x.classes)) e)))

    -- ---- a glyph's class

    pub no-class : (g : ℕ) → (HasMachine s at → ⊥) → given nothing ≡ given (ask m (along d (class g)))
    unfolding ask ask_side
    no-class g k =
        cases
        (λ e z. ap given (sym (ap (maybe (λ (x : Machine). maybe number (get_elem? x.columns g))) e)))
        (λ x e o a. absurd (k (a.room, (λ z. omega (arith, z, a.one)))))

    -- the runs of section 2
    module _ (p : ℕ) (f : Passes machine_bytes after_sizes (ByGlyphs OkMaybe) s at p) where
      runs-at : (x : Machine) → (side_of d m).machine ≡ some x → drop p s ≡ counted run_code (runs ℕ_discrete 1 0 x.columns) ++ (after_classes (some x) ++ clusters_on d m)
      runs-at x e =
          f (some x) (clusters_on d m) (m.glyphs, omega (arith, v.few-glyphs), subst (OkMaybe m.glyphs) e ok)
          (stands ∙ ap (λ (y : Option Machine). machine_bytes y ++ clusters_on d m) e)
          ∙ append_assoc (counted run_code (runs ℕ_discrete 1 0 x.columns)) (after_classes (some x)) (clusters_on d m)

      value-is : (x : Machine) → (side_of d m).machine ≡ some x → OkMachine m.glyphs x → (g : ℕ) (y : MaybeValue) → ValueIn s p g y → unwrap_or y 1 ≡ get_or x.columns g 1
      value-is x e o g y f =
          let n = m.glyphs in
          let rs = runs ℕ_discrete 1 0 x.columns in
          let good = runs-ok ℕ_discrete 1 x.columns n 0 (omega (arith, o.column-count)) in
          let few : length rs < 2 ^ 32 = omega (arith, ok-few ℕ_discrete 1 rs n 0 1 good, v.few-glyphs) in
          let wide : All WideRun rs = all_map _ WideRun (λ (r : Run ℕ) k. (k.0, k.1, omega (arith, k.3, o.few-classes))) rs
          (ok-wide 1 n (λ (c : ℕ). c < x.classes) (omega (arith, v.few-glyphs)) rs 0 1 good (all_runs ℕ_discrete 1 (λ (c : ℕ). c < x.classes) x.columns 0 o.columns)) in
          let t = after_classes (some x) ++ clusters_on d m in
          ap (λ (v : MaybeValue). unwrap_or v 1)
          (f (items-there run_code WideRun s bytes p 6 (λ r. refl) rs t few (runs-at x e))
          ∙ ap (value_at g) (items-are run_code WideRun run-free run_at 6 (λ r. refl) s bytes (run-wide s bytes) (run-at s bytes) p rs t few wide (runs-at x e)))
          ∙ element x.columns 1 g

      pub the_class : (g r : ℕ) (y : MaybeValue) → g < u32_at s 0 → HasMachine s at → ValueIn s p g y → r ≡ unwrap_or y 1 % 256 → given (number r) ≡ given (ask m (along d (class g)))
      unfolding ask ask_side
      the_class g r y l k f er =
          cases
          (λ e z. absurd (k.1 z))
          (λ x e o a.
          let below : g < length x.columns = omega (arith, l, o.column-count, (opened-sheet s bytes m v w).count) in
          let small : get_or x.columns g 1 < x.classes = all-at (λ (c : ℕ). c < x.classes) x.columns 1 g o.columns below in
          let q : r ≡ get_or x.columns g 1 = omega (arith, er, value-is x e o g y f, small, o.few-classes) in
          ap given (ap number q ∙ sym (ap (maybe (λ (x : Machine). maybe number (get_elem? x.columns g))) e ∙ ap (maybe number) (at_some x.columns g 1 below))))

    -- ---- a cell

    pub no_cell_lem : (r c : ℕ) → (HasMachine s at → ⊥) → given nothing ≡ given (ask m (along d (cell r c)))
    unfolding ask ask_side
    no_cell_lem r c k =
        cases
        (λ e z. ap given (sym (ap (maybe (λ (x : Machine). maybe entry (cell_of x r c))) e)))
        (λ x e o a. absurd (k (a.room, (λ z. omega (arith, z, a.one)))))

    -- a row or a class that the machine does not have
    outside : (r c : ℕ) → ((x : Machine) → MachineAt s at x → cell_of x r c ≡ none) → given nothing ≡ given (ask m (along d (cell r c)))
    unfolding ask ask_side
    outside r c k =
        let f : Machine → _ = λ (x : Machine). maybe entry (cell_of x r c) in
        cases
        (λ e z. ap given (sym (ap (maybe f) e)))
        (λ x e o a. ap given (sym (ap (maybe f) e ∙ ap (maybe entry) (k x a))))

    pub past_row : (r c : ℕ) → u32_at s (at + 4) ≤ r → given nothing ≡ given (ask m (along d (cell r c)))
    past_row r c l =
        outside r c (λ x a. ap (λ (b : Bool). cond (b && ltb c x.classes) (get_elem? x.cells (r * x.classes + c)) none) (le-ltb r x.rows (omega (arith, a.rows))))

    pub past-column : (r c : ℕ) → u32_at s (at + 8) ≤ c → given nothing ≡ given (ask m (along d (cell r c)))
    past-column r c l =
        outside r c (λ x a. ap (λ (b : Bool). cond (ltb r x.rows && b) (get_elem? x.cells (r * x.classes + c)) none) (le-ltb c x.classes (omega (arith, a.classes)))
        ∙ never (ltb r x.rows) (get_elem? x.cells (r * x.classes + c)))
      where
        never : (b : Bool) (y : Option Entry) → cond (b && false) y none ≡ none
        never true y = refl
        never false y = refl

    pub the-cell : (q r c w k : ℕ) → Passes machine_bytes after_classes (ByGlyphs OkMaybe) s at q → HasMachine s at → r < u32_at s (at + 4) → c < u32_at s (at + 8)
        → w ≡ u32_at s (at + 8) → k ≡ r * w + c → (y : sought.Option Entry) → CellIn s q k y → says_cell (Ok y) ≡ given (ask m (along d (cell r c)))
    unfolding ask ask_side
    the-cell q r c w k f has lr lc ew ek y fy =
        cases
        (λ e z. absurd (has.1 z))
        (λ x e o a.
        let z : Entry = record { row = 0; flags = 0 } in
        let n = m.glyphs in
        let er : r < x.rows = omega (arith, lr, a.rows) in
        let ec : c < x.classes = omega (arith, lc, a.classes) in
        let ew' : w ≡ x.classes = ew ∙ a.classes in
        let ek' : k ≡ r * x.classes + c = ek ∙ ap (λ (j : ℕ). r * j + c) ew' in
        let top : suc r * x.classes ≤ x.rows * x.classes = mul-le-mul_right x.classes er in
        let inside : k < x.rows * x.classes = omega (arith, ek', top, ec, suc-mul r x.classes) in
        let there : k < length x.cells = omega (arith, inside, o.cell-count) in
        let cells : drop q s ≡ numbered Entry-discrete entry_code x.cells ++ clusters_on d m =
        f (some x) (clusters_on d m) (n, omega (arith, v.few-glyphs), subst (OkMaybe n) e ok)
        (stands ∙ ap (λ (y : Option Machine). machine_bytes y ++ clusters_on d m) e) in
        fy x.rows x.classes x.cells (clusters_on d m)
        (record { some-rows = o.some-rows; few-rows = o.few-rows; some-classes = o.some-classes; few-classes = o.few-classes })
        (o.cell-count, o.cells, o.few-entries) cells inside
        ∙ ap given (sym (ap (maybe (λ (x : Machine). maybe entry (cell_of x r c))) e
        ∙ ap (maybe entry) (ap₂ (λ (a b : Bool). cond (a && b) (get_elem? x.cells (r * x.classes + c)) none) (lt-ltb r x.rows er) (lt-ltb c x.classes ec)
        ∙ ap (get_elem? x.cells) (sym ek') ∙ at_some x.cells k z there))))

-- ---- a cell where it stands

module _ (s : List ℕ) (bytes : Bytes s) (at k rows classes : ℕ) (cells : List Entry) (rest : List ℕ) (z : Sizes rows classes)
    (o : OkCells rows (rows * classes) cells) (e : drop at s ≡ numbered Entry-discrete entry_code cells ++ rest) (h : k < rows * classes) where
  readable : ReadableCells s (at + 4) (at + 4 + 4 * u32_at s at + 4) classes rows
  readable = cells-readable rows classes z s bytes at cells rest o e

  pub cells-room : HasItems 4 s at
  cells-room = omega (arith, readable.numbers-in)

  pub cell-fits : at + 4 + 4 * u32_at s at + 4 + k < length s
  cell-fits = omega (arith, readable.numbers-in, h)

  pub entry-fits : (i : ℕ) → i ≡ at + 4 + 4 * u32_at s at + 4 + k → at + 4 + 4 * get_or s i 0 + 4 ≤ length s
  entry-fits i ei = omega (arith, readable.entries-in k h, ap (λ (j : ℕ). get_or s j 0) ei)

  pub cell-is : (i n : ℕ) (x : Entry) → i ≡ at + 4 + 4 * u32_at s at + 4 + k → n ≡ get_or s i 0 → x ≡ entry_at s (at + 4 + 4 * n)
      → given (entry x) ≡ given (entry (get_or cells k (record { row = 0; flags = 0 })))
  cell-is i n x ei en ex =
      ap (λ (y : Entry). given (entry y)) (ex ∙ ap (λ (j : ℕ). entry_at s (at + 4 + 4 * j)) (en ∙ ap (λ (j : ℕ). get_or s j 0) ei)
      ∙ sym (cell_at rows classes z s bytes at cells rest o e k h))
