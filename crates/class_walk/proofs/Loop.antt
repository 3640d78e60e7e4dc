-- What the loop of the walk keeps, and what a turn makes of it: its locals are where the walk stands. Assumes nothing.
use Prim.Native.Nat.{ℕ, ◌+◌, ◌*◌, ◌/◌, ◌%◌, ◌≤◌, ◌<◌, ◌^◌}
use mathlib.Core.Path.{◌≡◌, refl, ap, ap₂, sym, ◌∙◌}
use mathlib.Core.Bool.{Bool, true, false, cond}
use mathlib.Core.List.{List}
use native.Mathlib.Omega.{arith}
use lib.Dec.{ltb}
use lib.ListN.{length, get_or, replicate, length-map}
use borrow.Author.Tests.{ltb-true, ltb-false}
use Rattle.std.specs.Prelude.{Option, Some, None, is_some, IfSome}
use Rattle.std.specs.Option.{option_or}
use Rattle.fields.specs.Field.{u16_at, u32_at, Bytes}
use Rattle.fields.proofs.Laws.{u16_at-fits}
use Rattle.machine.specs.Cells.{entry_at, cell_at, class_count, entry_table}
use Rattle.machine.specs.Rows.{row_count}
use Rattle.types.specs.declared.Entry.{Entry}
use Rattle.units.specs.Flags.{sets_mark, stays, mark_class, current_class}
use Rattle.class_walk.specs.declared.Met.{Met}
use Rattle.class_walk.specs.Walk.{Line, Conf, stopped, Fits, glyphs, column_at, current, give, met, given_by, on_at, begin, Ends, walked}
use Rattle.class_walk.specs.Line.{machine_at, line_of, line_column, line_columns, row_place, HandedOut, SoundMachine, Columns}
use Rattle.class_walk.proofs.Theory.{At, at_first, at-stays, at-moves, at_stops, spent-never, column-low}
use Rattle.class_walk.proofs.Laws.{ends-walked, never_walked}
use Rattle.class_walk.proofs.Line.{fits-of, handed-stopped, handed-never}

-- a place is a glyph's where there is a glyph
current-some : (n place : ℕ) → is_some (current n place) ≡ ltb place n
current-some n place = go (ltb place n)
  where
    go : (b : Bool) → is_some (cond b (Some place) None) ≡ b
    go true = refl
    go false = refl

-- the marked glyph after an entry is a glyph too
pub mark-within : (b : Bool) (n : ℕ) (glyph mark : Option ℕ) → IfSome glyph (λ at. at < n) → IfSome mark (λ at. at < n)
    → IfSome (cond b (option_or glyph mark) mark) (λ at. at < n)
mark-within true n None mark g m = m
mark-within true n (Some x) mark g m = g
mark-within false n glyph mark g m = m

-- the two fields of an entry, in one number
pub entry-fields : (t : List ℕ) (at : ℕ) → Bytes t → (u32_at t at / 65536 ≡ u16_at t at) × (u32_at t at % 65536 ≡ u16_at t (at + 2))
unfolding u32_at
entry-fields t at b = let h = u16_at-fits t (at + 2) b in (omega arith, omega arith)

-- the entry of a row that is known by where it stands, `k` being where the entry table stands
module _ (t : List ℕ) (here row column k : ℕ) (ek : k ≡ entry_table t here) (base : ℕ) (eb : base ≡ row_place t here row) where
  pub met-flags : (f : ℕ) → f ≡ u16_at t (k + 4 * get_or t (base + column) 0 + 2) → f ≡ (cell_at t here row column).flags
  unfolding cell_at entry_at
  met-flags f e = e ∙ ap₂ (λ (x y : ℕ). u16_at t (x + 4 * get_or t (y + column) 0 + 2)) ek eb

  -- where its new row stands
  pub met-base : SoundMachine t here → (r : ℕ) → r ≡ here + u16_at t (k + 4 * get_or t (base + column) 0) → row < row_count t here → column < class_count t here
      → r ≡ row_place t here (cell_at t here row column).row
  met-base ok r e h q = e ∙ ap₂ (λ (x y : ℕ). here + u16_at t (x + 4 * get_or t (y + column) 0)) ek eb ∙ ok.exact row column h q

module _ (t : List ℕ) (here : ℕ) (line : List ℕ) (starts ends : Bool) where
  abbrev pub line_by : Line
  line_by = line_of (line_columns t here line) starts ends

  -- the walk stands where the loop's locals say: the row is known by where it stands, and the class at the place is at hand
  pub record Stands (base column place : ℕ) (mark : Option ℕ) (given : List ℕ) (count spent : ℕ) : Type 0 where
    pub row : ℕ
    pub base-is : base ≡ row_place t here row
    pub near : base < 2 ^ 34
    pub column-is : column ≡ column_at (line_columns t here line) ends place
    pub marked : IfSome mark (λ at. at < length line)
    pub at : At (machine_at t here) line_by 256 (record { row = row; place = place; mark = mark; given = given; count = count }) spent

  module _ (sound : SoundMachine t here) (fit : Columns t here (line_columns t here line)) where
    fits : Fits (machine_at t here) line_by
    fits = fits-of starts ends sound fit

    -- no glyph is marked at first
    pub stands-first : {base column : ℕ} {given : List ℕ} → base ≡ row_place t here (cond starts 0 1) → base < 2 ^ 34
        → column ≡ column_at (line_columns t here line) ends 0 → given ≡ replicate (length line) 0 → Stands base column 0 None given 0 0
    unfolding begin
    stands-first b n k g = record {
      row = cond starts 0 1;
      base-is = b;
      near = n;
      column-is = k;
      marked = tt;
      at = rw (g, ← length-map line (line_column t here)) (at_first (machine_at t here) line_by fits 256);
    }

    module _ {base column place : ℕ} {mark : Option ℕ} {given : List ℕ} {count spent : ℕ} (w : Stands base column place mark given count spent) where
      pub column-small : column < class_count t here
      column-small = rw w.column-is (column-low fits place)

      pub count_small : count ≤ 262400
      count_small = omega (arith, w.at.place-low, w.at.count_low, w.at.spent-low, fit.short)

      -- S entries at one place
      pub stands-never : (room : List ℕ) → 256 ≤ spent → HandedOut (walked (machine_at t here) line_by) None room
      stands-never room h =
          let g = never_walked (machine_at t here) line_by (spent-never (machine_at t here) line_by fits 256 _ spent w.at (omega (arith, sound.rows-high))) in
          handed-never g.0 room g.1

      -- an entry is taken: its number stands where the row's cells and the column say
      module _ (few : spent < 256) {entries : ℕ} (k : entries ≡ entry_table t here) {m : Met}
          (b : m.base ≡ here + u16_at t (entries + 4 * get_or t (base + column) 0)) (f : m.flags ≡ u16_at t (entries + 4 * get_or t (base + column) 0 + 2))
          {glyph marked : Option ℕ} (g : glyph ≡ current (length line) place) (within : IfSome glyph (λ at. at < length line))
          (mk : marked ≡ cond (sets_mark m.flags) (option_or glyph mark) mark)
          {given' : List ℕ} (o : given' ≡ give glyph (current_class m.flags) (give mark (mark_class m.flags) given)) where
        abbrev s : Conf
        s = record { row = w.row; place = place; mark = mark; given = given; count = count }

        abbrev e : Entry
        e = cell_at t here w.row column

        same : length line ≡ glyphs line_by
        same = sym (length-map line (line_column t here))

        entry-is : e ≡ met (machine_at t here) line_by s
        entry-is = ap (cell_at t here w.row) w.column-is

        flags-are : m.flags ≡ (met (machine_at t here) line_by s).flags
        flags-are = met-flags t here w.row column entries k base w.base-is m.flags f ∙ ap (λ (x : Entry). x.flags) entry-is

        glyph-is : glyph ≡ current (glyphs line_by) place
        glyph-is = g ∙ ap (λ (n : ℕ). current n place) same

        given-is : given' ≡ given_by (met (machine_at t here) line_by s) line_by s
        given-is = o ∙ ap₂ (λ (x : ℕ) (y : Option ℕ). give y (current_class x) (give mark (mark_class x) given)) flags-are glyph-is

        goes-on : (p : ℕ) → on_at p (met (machine_at t here) line_by s) line_by s ≡ record { row = e.row; place = p; mark = marked; given = given'; count = count + 1 }
        goes-on p =
            let d = mk ∙ ap₂ (λ (x : ℕ) (y : Option ℕ). cond (sets_mark x) (option_or y mark) mark) flags-are glyph-is in
            sym (ap₂ (λ (x : Entry) (y : Option ℕ). record { row = x.row; place = p; mark = y; given = given'; count = count + 1 }) entry-is d
            ∙ ap (λ (y : List ℕ). on_with p y) given-is)
          where
            on_with : ℕ → List ℕ → Conf
            on_with p y = record (on_at p (met (machine_at t here) line_by s) line_by s) { given = y }

        glyph-at : {b : Bool} → is_some glyph ≡ b → ltb place (length line) ≡ b
        glyph-at h = sym (current-some (length line) place) ∙ sym (ap is_some g) ∙ h

        base-after : m.base ≡ row_place t here e.row
        base-after = met-base t here w.row column entries k base w.base-is sound m.base b w.at.row_low column-small

        marked-after : IfSome marked (λ at. at < length line)
        marked-after = rw mk (mark-within (sets_mark m.flags) (length line) glyph mark within w.marked)

        pub turn-stays : m.base < 2 ^ 34 → stays m.flags ≡ true → Stands m.base column place marked given' (count + 1) (spent + 1)
        turn-stays n h = record {
          row = e.row;
          base-is = base-after;
          near = n;
          column-is = w.column-is;
          marked = marked-after;
          at = rw goes-on at (at-stays (machine_at t here) line_by fits 256 s spent w.at few (sym (ap stays flags-are) ∙ h));
        }

        pub turn-moves : {column' : ℕ} → m.base < 2 ^ 34 → stays m.flags ≡ false → is_some glyph ≡ true → column' ≡ column_at (line_columns t here line) ends (place + 1)
            → Stands m.base column' (place + 1) marked given' (count + 1) 0
        turn-moves n h p q = record {
          row = e.row;
          base-is = base-after;
          near = n;
          column-is = q;
          marked = marked-after;
          at = rw goes-on at (at-moves (machine_at t here) line_by fits 256 s spent w.at few (sym (ap stays flags-are) ∙ h) (omega (arith, same, ltb-true _ _ (glyph-at p))));
        }

        -- at the end position an entry that does not stay stops the walk
        pub turn-stops : stays m.flags ≡ false → is_some glyph ≡ false → HandedOut (walked (machine_at t here) line_by) (Some (count + 1)) given'
        unfolding Ends
        turn-stops h p =
            let q = ends-walked (machine_at t here) line_by fits _ _ (count + 1, at_stops (machine_at t here) line_by fits 256 s spent w.at few (sym (ap stays flags-are) ∙ h) (omega (arith, same, ltb-false _ _ (glyph-at p)))) in
            handed-stopped given' (count + 1) (q ∙ ap (λ (x : List ℕ). stopped x (count + 1)) (sym given-is))
