-- What a machine without fault holds, for those that read one: its class count, its glyphs' classes, its row count as the least closed number, and its cells.
use Prim.Native.Nat.{ℕ, zero, suc, ◌+◌, ◌-◌, ◌*◌, ◌%◌, ◌≤◌, ◌<◌, max}
use mathlib.Core.Path.{◌≡◌, refl}
use mathlib.Core.Bool.{Bool, true, false, cond}
use mathlib.Core.List.{List}
use native.Mathlib.Omega.{arith}
use native.Mathlib.Decide.{ℕ_discrete, dec_lt}
use native.Mathlib.Nat.{div-add-mod'}
use lib.ListN.{get_or}
use lib.Dec.{ltb}
use borrow.Author.Tests.{leb-true, ltb-true, ltb-false, eqb-true}
use Rattle.fields.specs.declared.Refusal.TheVariants.{BadMachine}
use Rattle.fields.specs.Faults.{FirstFault}
use Rattle.fields.specs.Faults.{Clear}
use Rattle.fields.specs.Field.{u16_at, Bytes}
use Rattle.fields.specs.Faults.{◌then◌}
use Rattle.fields.specs.Walk.{each}
use Rattle.fields.proofs.Walk.{walk-each}
use Rattle.fields.proofs.Laws.{then-first, then-second, rule-holds, u16_at-fits}
use Rattle.machine.specs.Cells.{class_count, class_table, state_array, class_at, entry_at, number_at, cell_at}
use Rattle.machine.specs.Rows.{Least, entry_place, entry_fault, cell_fault, row_fault, raised, raised_by, fault_from, count_from, rows_fault, row_count}
use Rattle.machine.specs.Machine.{head_fault, class_fault, covered, class_table_fault, machine_fault}
use Rattle.machine.proofs.Steps.{raised-within, unless-clear, class-before, class-after, class-among}

-- each of things one after the other, none at fault, is without fault
each-clear : (one : ℕ → FirstFault) (n at : ℕ) → each one (λ p. p + 1) n at ≡ Clear → (p : ℕ) → at ≤ p → p < at + n → one p ≡ Clear
each-clear one n at e p l h =
    let q : at + 1 * (p - at) ≡ p = omega arith in
    rw q at (walk-each (λ p _. one p) 1 (λ p. 0) n at 0 e (p - at) (omega arith)).1

-- ---- the row count is the least closed number

-- cells from `class` on raise the row count s to k: as far as they lead, and no further
record Raised (t : List ℕ) (here row n class s k : ℕ) : Type 0 where
  more : s ≤ k
  leads : (c : ℕ) → class ≤ c → c < class + n → (cell_at t here row c).row < k
  tight : (m : ℕ) → s ≤ m → ((c : ℕ) → class ≤ c → c < class + n → (cell_at t here row c).row < m) → k ≤ m

raises : (t : List ℕ) (here row n class s : ℕ) → Raised t here row n class s (raised t here row n class s)
unfolding raised
raises t here row zero class s =
    record { more = omega arith; leads = λ c l h. absurd (omega arith); tight = λ m l w. l }
raises t here row (suc n) class s =
    let r = raises t here row n (class + 1) (max s ((cell_at t here row class).row + 1)) in
    record {
      more = omega (arith, r.more);
      leads = λ c l h. lead r c l h (ℕ_discrete c class);
      tight = λ m l w. r.tight m (omega (arith, w class (omega arith) (omega arith))) (λ c a b. w c (omega arith) (omega arith));
    }
  where
    lead : {k : ℕ} → Raised t here row n (class + 1) (max s ((cell_at t here row class).row + 1)) k
        → (c : ℕ) → class ≤ c → c < class + suc n → Dec (c ≡ class) → (cell_at t here row c).row < k
    lead r c l h (yes q) = rw q (omega (arith, r.more))
    lead r c l h (no q) = r.leads c (omega arith) (omega arith)

-- rows from `row` on, none at fault, with s so far give the row count k
record Settled (t : List ℕ) (here row s k : ℕ) : Type 0 where
  more : s ≤ k
  most : k ≤ 256
  clear : (r c : ℕ) → row ≤ r → r < k → c < class_count t here → cell_fault t here r c ≡ Clear
  leads : (r c : ℕ) → row ≤ r → r < k → c < class_count t here → (cell_at t here r c).row < k
  tight : (m : ℕ) → s ≤ m → ((r c : ℕ) → row ≤ r → r < m → c < class_count t here → (cell_at t here r c).row < m) → k ≤ m

module _ (t : List ℕ) (here : ℕ) where
  -- no row is left below the row count
  settled-end : (row s : ℕ) → s ≤ row → s ≤ 256 → Settled t here row s s
  settled-end row s l h =
      record {
        more = omega arith;
        most = h;
        clear = λ r c a b _. absurd (omega arith);
        leads = λ r c a b _. absurd (omega arith);
        tight = λ m a _. a;
      }

  settled : (n row s : ℕ) → row + n ≡ 256 → s ≤ 256 → fault_from t here n row s ≡ Clear → Settled t here row s (count_from t here n row s)
  unfolding fault_from count_from row_fault raised_by
  settled zero row s f h e = settled-end row s (omega arith) h
  settled (suc n) row s f h e = go (ltb row s) refl (λ k. settled n (row + 1) k (omega arith)) e
    where
      go : (b : Bool) → ltb row s ≡ b
          → ((k : ℕ) → k ≤ 256 → fault_from t here n (row + 1) k ≡ Clear → Settled t here (row + 1) k (count_from t here n (row + 1) k))
          → cond b (row_fault t here row then fault_from t here n (row + 1) (raised_by t here row s)) Clear ≡ Clear
          → Settled t here row s (cond b (count_from t here n (row + 1) (raised_by t here row s)) s)
      go false b ih e = settled-end row s (ltb-false row s b) h
      go true b ih e =
          let l : row < s = ltb-true row s b in
          let here-clear : row_fault t here row ≡ Clear = then-first _ _ e in
          let r = raises t here row (class_count t here) 0 s in
          let w = ih (raised_by t here row s) (raised-within t here row (class_count t here) 0 s h here-clear) (then-second _ _ e) in
          record {
            more = omega (arith, r.more, w.more);
            most = w.most;
            clear = λ i c a b y. fine here-clear w i c a b y (ℕ_discrete i row);
            leads = λ i c a b y. lead r w i c a b y (ℕ_discrete i row);
            tight = λ m a v. w.tight m
                (r.tight m a (λ c _ y. v row c (omega arith) (omega arith) (omega arith)))
                (λ i c z y x. v i c (omega arith) y x);
          }
        where
          fine : {k : ℕ} → row_fault t here row ≡ Clear → Settled t here (row + 1) (raised_by t here row s) k
              → (i c : ℕ) → row ≤ i → i < k → c < class_count t here → Dec (i ≡ row) → cell_fault t here i c ≡ Clear
          fine z w i c a b y (yes q) = rw q (each-clear (cell_fault t here row) (class_count t here) 0 z c (omega arith) (omega arith))
          fine z w i c a b y (no q) = w.clear i c (omega arith) b y

          lead : {k : ℕ} → Raised t here row (class_count t here) 0 s (raised_by t here row s) → Settled t here (row + 1) (raised_by t here row s) k
              → (i c : ℕ) → row ≤ i → i < k → c < class_count t here → Dec (i ≡ row) → (cell_at t here i c).row < k
          lead r w i c a b y (yes q) = rw q (omega (arith, r.leads c (omega arith) (omega arith), w.more))
          lead r w i c a b y (no q) = w.leads i c (omega arith) b y

  -- no two numbers are the least
  pub one-count : (s k : ℕ) → Least t here s → Least t here k → s ≡ k
  one-count s k a b = omega (arith, a.least k b.two b.closed, b.least s a.two a.closed)

-- ---- a machine without fault

module _ (t : List ℕ) (glyphs here : ℕ) (e : machine_fault t glyphs here ≡ Clear) where
  rows_settled : Settled t here 0 2 (row_count t here)
  unfolding machine_fault row_count
  rows_settled =
      let clear : rows_fault t here ≡ Clear = then-second _ _ (then-second _ _ e) in
      rw (unless-clear (count_from t here 256 0 2) clear) (settled t here 256 0 2 refl (omega arith) clear)

  pub row_count-least : Least t here (row_count t here)
  row_count-least =
      let w = rows_settled in
      record {
        two = w.more;
        most = w.most;
        closed = λ r c a b. w.leads r c (omega arith) a b;
        least = λ k a v. w.tight k a (λ r c _ b y. v r c b y);
      }

  -- S is 2 to 256
  pub rows-two : 2 ≤ row_count t here
  rows-two = rows_settled.more

  pub rows-most : row_count t here ≤ 256
  rows-most = rows_settled.most

  pub classes-least : 4 ≤ class_count t here
  unfolding machine_fault head_fault
  classes-least = leb-true _ _ (rule-holds _ BadMachine here (then-first _ _ (then-second _ _ (then-first _ _ e))))

  pub classes-most : class_count t here ≤ 255
  unfolding machine_fault head_fault
  classes-most = leb-true _ _ (rule-holds _ BadMachine here (then-first _ _ (then-second _ _ (then-second _ _ (then-first _ _ e)))))

  byte-below : (p : ℕ) → class_fault t here p ≡ Clear → get_or t p 0 < class_count t here
  unfolding class_fault
  byte-below p q = ltb-true _ _ (rule-holds _ BadMachine p (then-second _ _ q))

  bytes-clear : (p : ℕ) → class_table t here + 4 ≤ p
      → p < class_table t here + 4 + covered glyphs (u16_at t (class_table t here)) (u16_at t (class_table t here + 2)) → class_fault t here p ≡ Clear
  unfolding machine_fault class_table_fault
  bytes-clear = each-clear (class_fault t here) _ _ (then-second _ _ (then-second _ _ (then-first _ _ (then-second _ _ e))))

  -- every glyph's class is below the class count
  pub class-below : (glyph : ℕ) → glyph < glyphs → class_at t here glyph < class_count t here
  class-below glyph h = go (dec_lt _ _) (dec_lt _ _)
    where
      go : Dec (glyph < u16_at t (class_table t here)) → Dec (glyph < u16_at t (class_table t here) + u16_at t (class_table t here + 2))
          → class_at t here glyph < class_count t here
      go (yes a) b = omega (arith, class-before t here glyph a, classes-least)
      go (no a) (no b) = omega (arith, class-after t here glyph (omega arith) (omega arith), classes-least)
      go (no a) (yes b) =
          rw (class-among t here glyph (omega arith) b) (byte-below _ (bytes-clear _ (omega arith) (omega arith)))

  -- a cell of a row below S: it is without fault, and leads below S
  module _ (row class : ℕ) (below : row < row_count t here) (known : class < class_count t here) where
    pub cell-clear : cell_fault t here row class ≡ Clear
    cell-clear = rows_settled.clear row class (omega arith) below known

    pub cell_below : (cell_at t here row class).row < row_count t here
    cell_below = rows_settled.leads row class (omega arith) below known

    -- the new row that the entry stores is the place of that very row
    pub cell-exact : here + u16_at t (entry_place t here (number_at t here row class)) ≡ state_array t here + (cell_at t here row class).row * class_count t here
    unfolding cell_fault entry_fault cell_at entry_at
    cell-exact =
        let place : ℕ = entry_place t here (number_at t here row class) in
        let entry = then-second _ _ cell-clear in
        let past : u16_at t (here + 4) ≤ u16_at t place = leb-true _ _ (rule-holds _ BadMachine _ (then-first _ _ (then-second _ _ entry))) in
        let judged = then-first _ _ (then-second _ _ (then-second _ _ entry)) in
        let whole : (u16_at t place - u16_at t (here + 4)) % class_count t here ≡ 0 = eqb-true _ _ (rule-holds _ BadMachine _ judged) in
        omega (arith, div-add-mod' (u16_at t place - u16_at t (here + 4)) (class_count t here))

-- ---- stored numbers and flags, of any machine

pub flags-fit : (t : List ℕ) (here row class : ℕ) → Bytes t → (cell_at t here row class).flags < 65536
unfolding cell_at entry_at
flags-fit t here row class bytes = u16_at-fits t _ bytes
