-- The walk, step by step: what holds where it stands, what an entry makes of it, and why S entries that stay at one place mean that it never ends.
-- Assumes nothing.
use Prim.Native.Nat.{ℕ, zero, suc, ◌+◌, ◌-◌, ◌*◌, ◌≤◌, ◌<◌}
use mathlib.Core.Path.{◌≡◌, refl, ap, sym, ◌∙◌}
use mathlib.Core.Bool.{Bool, true, false, cond}
use Rattle.std.specs.Prelude.{Option, Some, None}
use mathlib.Core.List.{List}
use native.Mathlib.Omega.{arith}
use native.Mathlib.Decide.{ℕ_discrete, dec_le}
use native.Mathlib.Nat.{add-suc, add-zero, mul-suc, mul-le-mul_left}
use native.Mathlib.Numerals.{add-one}
use lib.Dec.{eqb, ltb}
use lib.ListN.{length, get_or, set, length-set, length-replicate}
use borrow.Author.Tests.{lt-ltb, le-ltb, ltb-true}
use Rattle.types.specs.declared.Entry.{Entry}
use Rattle.units.specs.Flags.{stays, mark_class, current_class}
use Rattle.class_walk.specs.Walk.{Machine, Line, Conf, going, stopped, Fits, glyphs, column_at, current, give, met, given_by, on_at, taken, entry, step, begin, after, Never, most_entries}
use Rattle.class_walk.proofs.Cycle.{iter, forever}

pub give-length : (g : Option ℕ) (v : ℕ) (cs : List ℕ) → length (give g v cs) ≡ length cs
give-length None v cs = refl
give-length (Some p) v cs = go (eqb v 0)
  where
    go : (b : Bool) → length (cond b cs (set cs p v)) ≡ length cs
    go true = refl
    go false = length-set cs p v

-- ---- steps

cond-true : {A : Type 0} (b : Bool) (x y : A) → b ≡ true → cond b x y ≡ x
cond-true b x y e = simp e

cond-false : {A : Type 0} (b : Bool) (x y : A) → b ≡ false → cond b x y ≡ y
cond-false b x y e = simp e

module _ (e : Entry) (l : Line) (s : Conf) where
  pub taken-stays : stays e.flags ≡ true → taken e l s ≡ going (on_at s.place e l s)
  unfolding taken
  taken-stays h = cond-true _ _ _ h

  pub taken-moves : stays e.flags ≡ false → s.place < glyphs l → taken e l s ≡ going (on_at (s.place + 1) e l s)
  unfolding taken
  taken-moves h p = cond-false _ _ _ h ∙ cond-true _ _ _ (lt-ltb _ _ p)

  pub taken-stops : stays e.flags ≡ false → glyphs l ≤ s.place → taken e l s ≡ stopped (given_by e l s) (s.count + 1)
  unfolding taken
  taken-stops h p = cond-false _ _ _ h ∙ cond-false _ _ _ (le-ltb _ _ p)

module _ (m : Machine) (l : Line) where
  after-going : (n : ℕ) (s : Conf) → after m l n ≡ going s → after m l (suc n) ≡ entry m l s
  unfolding after step
  after-going n s e = ap (step m l) e

  -- what has stopped stays as it is
  pub still : (n d : ℕ) (cs : List ℕ) (k : ℕ) → after m l n ≡ stopped cs k → after m l (n + d) ≡ stopped cs k
  unfolding after step
  still n zero cs k e = simp add-zero e
  still n (suc d) cs k e = simp add-suc (ap (step m l) (still n d cs k e))

  pub still-at : (n n' : ℕ) (cs : List ℕ) (k : ℕ) → n ≤ n' → after m l n ≡ stopped cs k → after m l n' ≡ stopped cs k
  still-at n n' cs k h e =
      let d : n + (n' - n) ≡ n' = omega arith in
      sym (ap (after m l) d) ∙ still n (n' - n) cs k e

-- ---- S entries that stay at one place

abbrev pub next_row : Machine → Line → ℕ → ℕ → ℕ
next_row m l place row = (m.cell row (column_at l.columns l.ends place)).row

abbrev pub StaysAt : Machine → Line → ℕ → ℕ → Type 0
StaysAt m l place row = stays (m.cell row (column_at l.columns l.ends place)).flags ≡ true

-- `spent` entries have stayed at the place, from the row `from` to this row
pub record Here (m : Machine) (l : Line) (place spent row : ℕ) : Type 0 where
  pub from : ℕ
  pub from_low : from < m.rows
  pub reached : row ≡ iter (next_row m l place) spent from
  pub stayed : (k : ℕ) → k < spent → StaysAt m l place (iter (next_row m l place) k from)

here-new : (m : Machine) (l : Line) (place row : ℕ) → row < m.rows → Here m l place 0 row
unfolding iter
here-new m l place row h = record { from = row; from_low = h; reached = refl; stayed = λ k z. absurd (omega arith) }

here_on : (m : Machine) (l : Line) (place spent row : ℕ) → Here m l place spent row → StaysAt m l place row → Here m l place (spent + 1) (next_row m l place row)
unfolding iter
here_on m l place spent row h t =
    record {
      from = h.from;
      from_low = h.from_low;
      reached = rw (add-one) (ap (next_row m l place) h.reached);
      stayed = λ k z. more k z (ℕ_discrete k spent);
    }
  where
    more : (k : ℕ) → k < spent + 1 → Dec (k ≡ spent) → StaysAt m l place (iter (next_row m l place) k h.from)
    more k z (yes e) = rw (e, ← h.reached) t
    more k z (no e) = h.stayed k (omega arith)

-- the walk stands in this row at this place after n steps
unfoldable pub Stuck : Machine → Line → ℕ → ℕ → ℕ → Type 0
Stuck m l n place row = (s : Conf) × (after m l n ≡ going s) × (s.place ≡ place) × (s.row ≡ row)

pub stuck-on : (m : Machine) (l : Line) (n place row : ℕ) → Stuck m l n place row → StaysAt m l place row → Stuck m l (suc n) place (next_row m l place row)
unfolding Stuck
stuck-on m l n place row t e =
    let s = t.0 in (
      on_at s.place (met m l s) l s,
      after-going m l n s t.1 ∙ taken-stays (met m l s) l s (rw (t.2, t.3) e),
      t.2,
      rw (t.2, t.3) refl,
    )

stuck-all : (m : Machine) (l : Line) (n place r i : ℕ) → Stuck m l n place (iter (next_row m l place) i r)
    → ((k : ℕ) → StaysAt m l place (iter (next_row m l place) k r)) → (d : ℕ) → Stuck m l (n + d) place (iter (next_row m l place) (i + d) r)
unfolding iter
stuck-all m l n place r i t a zero = simp add-zero t
stuck-all m l n place r i t a (suc d) =
    simp add-suc (stuck-on m l (n + d) place (iter (next_row m l place) (i + d) r) (stuck-all m l n place r i t a d) (a (i + d)))

pub not_stopped : (m : Machine) (l : Line) (n place row : ℕ) → Stuck m l n place row → (cs : List ℕ) (k : ℕ) → after m l n ≡ stopped cs k → ⊥
unfolding Stuck
not_stopped m l n place row t cs k e = let p = t.1 in let z : ◌≡◌ {A = ℕ} 0 1 = cc in omega arith

-- ---- where a walk stands, with `spent` entries that stayed at its place, at most `bound`

pub record At (m : Machine) (l : Line) (bound : ℕ) (s : Conf) (spent : ℕ) : Type 0 where
  pub row_low : s.row < m.rows
  pub place-low : s.place ≤ glyphs l
  pub spent-low : spent ≤ bound
  pub count_low : s.count ≤ bound * s.place + spent
  pub long : length s.given ≡ glyphs l
  pub reached : after m l s.count ≡ going s
  pub here : Here m l s.place spent s.row

pub column-low : {m : Machine} {l : Line} → Fits m l → (place : ℕ) → column_at l.columns l.ends place < m.classes
column-low {m} {l} ok place = go (ltb place (glyphs l)) refl l.ends
  where
    go : (b : Bool) → ltb place (glyphs l) ≡ b → (ends : Bool) → cond b (get_or l.columns place 0) (cond ends 0 3) < m.classes
    go true e ends = ok.columns-low place (ltb-true place (glyphs l) e)
    go false e true = omega (arith, ok.classes-low)
    go false e false = omega (arith, ok.classes-low)

module _ (m : Machine) (l : Line) (ok : Fits m l) where
  next_low : (place row : ℕ) → row < m.rows → next_row m l place row < m.rows
  next_low place row h = ok.closed row (column_at l.columns l.ends place) h (column-low ok place)

  iter-low : (place row : ℕ) → row < m.rows → (k : ℕ) → iter (next_row m l place) k row < m.rows
  unfolding iter
  iter-low place row h zero = h
  iter-low place row h (suc k) = next_low place (iter (next_row m l place) k row) (iter-low place row h k)

  first-low : (b : Bool) → cond b 0 1 < m.rows
  first-low true = omega (arith, ok.rows-low)
  first-low false = omega (arith, ok.rows-low)

  pub at_first : (bound : ℕ) → At m l bound (begin l) 0
  unfolding begin after
  at_first bound =
      record {
        row_low = first-low l.starts;
        place-low = omega arith;
        spent-low = omega arith;
        count_low = omega arith;
        long = length-replicate (glyphs l) 0;
        reached = refl;
        here = here-new m l 0 (cond l.starts 0 1) (first-low l.starts);
      }

  module _ (bound : ℕ) (s : Conf) (spent : ℕ) (a : At m l bound s spent) (few : spent < bound) where
    given-length : length (given_by (met m l s) l s) ≡ glyphs l
    given-length =
        give-length (current (glyphs l) s.place) (current_class (met m l s).flags) (give s.mark (mark_class (met m l s).flags) s.given)
        ∙ give-length s.mark (mark_class (met m l s).flags) s.given
        ∙ a.long

    next : after m l (s.count + 1) ≡ entry m l s
    next = rw (add-one) (after-going m l s.count s a.reached)

    pub at-stays : stays (met m l s).flags ≡ true → At m l bound (on_at s.place (met m l s) l s) (spent + 1)
    at-stays e =
        record {
          row_low = next_low s.place s.row a.row_low;
          place-low = a.place-low;
          spent-low = omega arith;
          count_low = omega (arith, a.count_low);
          long = given-length;
          reached = next ∙ taken-stays (met m l s) l s e;
          here = here_on m l s.place spent s.row a.here e;
        }

    count_next : s.count + 1 ≤ bound * (s.place + 1) + 0
    count_next =
        let c : s.count ≤ bound * s.place + spent = a.count_low in
        let e : bound * (s.place + 1) ≡ bound * s.place + bound = rw (add-one) (mul-suc bound s.place) in
        omega arith

    pub at-moves : stays (met m l s).flags ≡ false → s.place < glyphs l → At m l bound (on_at (s.place + 1) (met m l s) l s) 0
    at-moves e h =
        record {
          row_low = next_low s.place s.row a.row_low;
          place-low = omega arith;
          spent-low = omega arith;
          count_low = count_next;
          long = given-length;
          reached = next ∙ taken-moves (met m l s) l s e h;
          here = here-new m l (s.place + 1) (next_row m l s.place s.row) (next_low s.place s.row a.row_low);
        }

    pub at_stops : stays (met m l s).flags ≡ false → glyphs l ≤ s.place
        → after m l (s.count + 1) ≡ stopped (given_by (met m l s) l s) (s.count + 1)
    at_stops e h = next ∙ taken-stops (met m l s) l s e h

  pub at_most : (s : Conf) (spent : ℕ) → At m l m.rows s spent → s.count ≤ most_entries m l
  at_most s spent a =
      let c : s.count ≤ m.rows * s.place + spent = a.count_low in
      let p : m.rows * s.place ≤ m.rows * glyphs l = mul-le-mul_left m.rows a.place-low in
      let e : m.rows * (glyphs l + 1) ≡ m.rows * glyphs l + m.rows = rw (add-one) (mul-suc m.rows (glyphs l)) in
      omega (arith, a.spent-low)

  pub stop-most : (s : Conf) (spent : ℕ) → At m l m.rows s spent → spent < m.rows → s.count + 1 ≤ most_entries m l
  stop-most s spent a few =
      let c : s.count ≤ m.rows * s.place + spent = a.count_low in
      let p : m.rows * s.place ≤ m.rows * glyphs l = mul-le-mul_left m.rows a.place-low in
      let e : m.rows * (glyphs l + 1) ≡ m.rows * glyphs l + m.rows = rw (add-one) (mul-suc m.rows (glyphs l)) in
      omega arith

  -- S entries that stayed are S + 1 rows below S, so one came twice, and all that follow stay
  always : (place spent row : ℕ) (h : Here m l place spent row) → m.rows ≤ spent → (k : ℕ) → StaysAt m l place (iter (next_row m l place) k h.from)
  always place spent row h q =
      forever (next_row m l place) (StaysAt m l place) m.rows h.from (λ k z. iter-low place h.from h.from_low k) (λ k z. h.stayed k (omega arith))

  pub spent-never : (bound : ℕ) (s : Conf) (spent : ℕ) → At m l bound s spent → m.rows ≤ spent → Never m l
  unfolding Never Stuck
  spent-never bound s spent a q n' cs k e' = go (dec_le n' s.count)
    where
      h : Here m l s.place spent s.row
      h = a.here

      start : Stuck m l s.count s.place (iter (next_row m l s.place) spent h.from)
      start = (s, a.reached, refl, h.reached)

      go : Dec (n' ≤ s.count) → ⊥
      go (yes z) = not_stopped m l s.count s.place _ start cs k (still-at m l n' s.count cs k z e')
      go (no z) =
          let d : s.count + (n' - s.count) ≡ n' = omega arith in
          not_stopped m l (s.count + (n' - s.count)) s.place _
          (stuck-all m l s.count s.place h.from spent start (always s.place spent s.row h q) (n' - s.count))
          cs k (ap (after m l) d ∙ e')
