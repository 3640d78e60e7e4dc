-- In a lookup with no fault the counted units rise without overlap, so at most one of them covers a glyph, and its value is the glyph's.
use Rattle.std.specs.Prelude.{None, Some}
use Prim.Native.Nat.{ℕ, zero, suc, ◌+◌, ◌-◌, ◌*◌, ◌≤◌, ◌<◌}
use mathlib.Core.List.{List}
use mathlib.Core.Bool.{Bool, true, false, ◌&&◌}
use mathlib.Core.Path.{◌≡◌, refl, sym, ◌∙◌}
use native.Mathlib.Omega.{arith}
use lib.Dec.{leb, ltb, eqb}
use lib.ListN.{length}
use borrow.Author.Tests.{leb-true, lt-leb, eqb-true, eqb-false, ltb-true, ltb-false}
use Rattle.fields.specs.declared.Refusal.TheVariants.{BadLookup}
use Rattle.fields.specs.Faults.{Clear}
use Rattle.fields.specs.Field.{u16_at}
use Rattle.fields.proofs.Laws.{then-first, then-second, rule-holds, inside-holds}
use Rattle.fields.specs.Walk.{walk}
use Rattle.fields.proofs.Walk.{walk_none}
use Rattle.lookup.specs.Units.{unit_size, last_of, first_of, range_fault, single_fault, unit_fault, units_fault}
use Rattle.lookup.specs.Lookup.{counted_fault, segments_fault, trimmed_fault, lookup_fault, format_fault}
use Rattle.lookup.specs.Find.{covers, unit_value, units_value, has_units, unit_count, value_of}
use Rattle.lookup.proofs.Laws.{size-single, size-range, unit-single, unit-range, first-single, first_range, units-here, units-next, from-units, value_none, value_in_lem, count-some, count_none}

-- the place of the unit with number `k` in the lookup at `at`
abbrev pub unit_at : List ℕ → ℕ → ℕ → ℕ
unit_at t at k = at + 12 + unit_size (u16_at t at) * k

both : (a b : Bool) → (a && b) ≡ true → (a ≡ true) × (b ≡ true)
both true true e = (refl, refl)
both true false e = (refl, e)
both false true e = (e, refl)
both false false e = (e, e)

pub covered : (t : List ℕ) (f glyph p : ℕ) → covers t f glyph p ≡ true → (first_of t f p ≤ glyph) × (glyph ≤ last_of t p)
unfolding covers
covered t f glyph p e =
    let w = both (leb (first_of t f p) glyph) (leb glyph (last_of t p)) e in
    (leb-true _ _ w.0, leb-true _ _ w.1)

-- a unit that ends below a glyph, and one that begins above it, do not cover it
pub ends-below : (t : List ℕ) (f glyph p : ℕ) → last_of t p < glyph → covers t f glyph p ≡ false
unfolding covers
ends-below t f glyph p h = go (leb (first_of t f p) glyph)
  where
    go : (b : Bool) → (b && leb glyph (last_of t p)) ≡ false
    go true = lt-leb glyph (last_of t p) h
    go false = refl

pub begins-above : (t : List ℕ) (f glyph p : ℕ) → glyph < first_of t f p → covers t f glyph p ≡ false
unfolding covers
begins-above t f glyph p h = simp (lt-leb (first_of t f p) glyph h)

-- a font has at most 65,535 glyphs: a closing unit covers none of them, and glyph 0xFFFF has no value
pub closing-none : (t : List ℕ) (f glyphs glyph p : ℕ) → glyphs < 65536 → glyph < glyphs → first_of t f p ≡ 65535 → covers t f glyph p ≡ false
closing-none t f glyphs glyph p h g e = begins-above t f glyph p (omega arith)

pub deleted-none : (t : List ℕ) (glyphs at : ℕ) → glyphs < 65536 → value_of t glyphs at 65535 ≡ None
deleted-none t glyphs at h = value_none t glyphs at 65535 (omega arith)

module _ (t : List ℕ) (f : ℕ) where
  -- what a unit without a fault keeps to
  pub unit-rules : (p least : ℕ) → unit_fault t f p least ≡ Clear → (least ≤ first_of t f p) × (first_of t f p ≤ last_of t p)
  unfolding range_fault single_fault
  unit-rules p least e = go (eqb f 6) refl
    where
      go : (b : Bool) → eqb f 6 ≡ b → (least ≤ first_of t f p) × (first_of t f p ≤ last_of t p)
      go true q =
          let s : f ≡ 6 = eqb-true f 6 q in
          let clear : single_fault t p least ≡ Clear = sym (unit-single t f p least s) ∙ e in
          let l : least ≤ u16_at t p = leb-true _ _ (rule-holds _ BadLookup p (then-first _ _ (then-second _ _ clear))) in
          let i : first_of t f p ≡ u16_at t p = first-single t f p s in
          (omega arith, omega arith)
      go false q =
          let s : f ≡ 6 → ⊥ = eqb-false f 6 q in
          let clear : range_fault t p least ≡ Clear = sym (unit-range t f p least s) ∙ e in
          let tail = then-second _ _ (then-second _ _ clear) in
          let l : least ≤ u16_at t (p + 2) = leb-true _ _ (rule-holds _ BadLookup (p + 2) (then-first _ _ tail)) in
          let o : u16_at t (p + 2) ≤ u16_at t p = leb-true _ _ (rule-holds _ BadLookup (p + 2) (then-first _ _ (then-second _ _ tail))) in
          let i : first_of t f p ≡ u16_at t (p + 2) = first_range t f p s in
          (omega arith, omega arith)

  -- a unit without a fault stands inside the table
  pub unit-inside : (p least : ℕ) → unit_fault t f p least ≡ Clear → p + unit_size f ≤ length t
  unfolding single_fault range_fault
  unit-inside p least e = go (eqb f 6) refl
    where
      go : (b : Bool) → eqb f 6 ≡ b → p + unit_size f ≤ length t
      go true q =
          let s : f ≡ 6 = eqb-true f 6 q in
          let clear : single_fault t p least ≡ Clear = sym (unit-single t f p least s) ∙ e in
          let w = inside-holds t (p + 2) 2 (then-second _ _ (then-second _ _ clear)) in
          omega (arith, w, size-single f s)
      go false q =
          let s : f ≡ 6 → ⊥ = eqb-false f 6 q in
          let clear : range_fault t p least ≡ Clear = sym (unit-range t f p least s) ∙ e in
          let w = inside-holds t (p + 4) 2 (then-second _ _ (then-second _ _ (then-second _ _ (then-second _ _ clear)))) in
          omega (arith, w, size-range f s)

  -- the units after the first are without a fault too
  pub units-rest : (n p least q : ℕ) → 0 < n → q ≡ p + unit_size f → units_fault t f n p least ≡ Clear
      → units_fault t f (n - 1) q (last_of t p + 1) ≡ Clear
  unfolding walk
  units-rest zero p least q h s e = absurd (omega arith)
  units-rest (suc n) p least q h s e =
      let down : suc n - 1 ≡ n = omega arith in
      simp (down, s) (then-second _ _ e)

  pub units-first : (n p least : ℕ) → 0 < n → units_fault t f n p least ≡ Clear → unit_fault t f p least ≡ Clear
  unfolding walk
  units-first zero p least h e = absurd (omega arith)
  units-first (suc n) p least h e = then-first _ _ e

  -- each unit begins at `least` or past it
  pub rises : (n p least k q : ℕ) → units_fault t f n p least ≡ Clear → k < n → q ≡ p + unit_size f * k → least ≤ first_of t f q
  unfolding walk
  rises zero p least k q e h s = absurd (omega arith)
  rises (suc n) p least zero q e h s =
      let here : q ≡ p = omega arith in
      rw here (unit-rules p least (then-first _ _ e)).0
  rises (suc n) p least (suc k) q e h s =
      let r = unit-rules p least (then-first _ _ e) in
      let i : last_of t p + 1 ≤ first_of t f q = rises n (p + unit_size f) (last_of t p + 1) k q (then-second _ _ e) (omega arith) (omega arith) in
      omega arith

  -- units rise without overlap
  apart : (n p least j k : ℕ) → units_fault t f n p least ≡ Clear → j < k → k < n → (q s : ℕ) → q ≡ p + unit_size f * j → s ≡ p + unit_size f * k
      → last_of t q < first_of t f s
  unfolding walk
  apart zero p least j k e h i q s u v = absurd (omega arith)
  apart (suc n) p least j zero e h i q s u v = absurd (omega arith)
  apart (suc n) p least zero (suc k) e h i q s u v =
      let here : q ≡ p = omega arith in
      let r : last_of t p + 1 ≤ first_of t f s = rises n (p + unit_size f) (last_of t p + 1) k s (then-second _ _ e) (omega arith) (omega arith) in
      rw here (omega arith)
  apart (suc n) p least (suc j) (suc k) e h i q s u v =
      apart n (p + unit_size f) (last_of t p + 1) j k (then-second _ _ e) (omega arith) (omega arith) q s (omega arith) (omega arith)

  -- no unit covers a glyph below the first unit's least
  pub none_above : (at glyph n p least : ℕ) → units_fault t f n p least ≡ Clear → glyph < least → units_value t f at glyph n p ≡ None
  unfolding walk units_value
  none_above at glyph zero p least e h = refl
  none_above at glyph (suc n) p least e h =
      let r = unit-rules p least (then-first _ _ e) in
      let i : glyph < first_of t f p = omega arith in
      simp (begins-above t f glyph p i)
      (none_above at glyph n (p + unit_size f) (last_of t p + 1) (then-second _ _ e) (omega arith))

  -- a unit that covers a glyph gives it its value
  pub covering : (at glyph n p least k q : ℕ) → units_fault t f n p least ≡ Clear → k < n → q ≡ p + unit_size f * k → covers t f glyph q ≡ true
      → units_value t f at glyph n p ≡ Some (unit_value t f at glyph q)
  unfolding walk
  covering at glyph zero p least k q e h s w = absurd (omega arith)
  covering at glyph (suc n) p least zero q e h s w =
      let here : q ≡ p = omega arith in
      rw here (units-here t f at glyph (suc n) p (omega arith) (rw here at w))
  covering at glyph (suc n) p least (suc k) q e h s w =
      let l : last_of t p + 1 ≤ first_of t f q = rises n (p + unit_size f) (last_of t p + 1) k q (then-second _ _ e) (omega arith) (omega arith) in
      let g = covered t f glyph q w in
      let down : suc n - 1 ≡ n = omega arith in
      units-next t f at glyph (suc n) p (p + unit_size f) (omega arith) (ends-below t f glyph p (omega arith)) refl
      ∙ rw down (covering at glyph n (p + unit_size f) (last_of t p + 1) k q (then-second _ _ e) (omega arith) (omega arith) w)

-- the counted units of a lookup without a fault are without one
module _ (t : List ℕ) (at : ℕ) where
  counted : (f : ℕ) → f ≡ u16_at t at → counted_fault t f at ≡ Clear → has_units f ≡ true → units_fault t (u16_at t at) (unit_count t at) (at + 12) 0 ≡ Clear
  unfolding counted_fault
  counted f r e u = simp (count-some t at f r u, ← r) (then-second _ _ (then-second _ _ (then-second _ _ e)))

  uncounted : (f : ℕ) → f ≡ u16_at t at → has_units f ≡ false → units_fault t (u16_at t at) (unit_count t at) (at + 12) 0 ≡ Clear
  uncounted f r u = walk_none _ _ _ _ _ _ (omega (arith, count_none t at f r u))

  pub units-clear : (glyphs : ℕ) → lookup_fault t glyphs at ≡ Clear → units_fault t (u16_at t at) (unit_count t at) (at + 12) 0 ≡ Clear
  unfolding lookup_fault format_fault segments_fault has_units
  units-clear glyphs e = go (eqb (u16_at t at) 2) refl (eqb (u16_at t at) 4) refl (eqb (u16_at t at) 6) refl (then-second _ _ e)
    where
      go : (b : Bool) → eqb (u16_at t at) 2 ≡ b → (d : Bool) → eqb (u16_at t at) 4 ≡ d → (g : Bool) → eqb (u16_at t at) 6 ≡ g
          → format_fault t glyphs at (u16_at t at) ≡ Clear → units_fault t (u16_at t at) (unit_count t at) (at + 12) 0 ≡ Clear
      go true x d y g z w =
          let r : 2 ≡ u16_at t at = sym (eqb-true _ _ x) in
          counted 2 r (simp (← r) at w) refl
      go false x true y g z w =
          let r : 4 ≡ u16_at t at = sym (eqb-true _ _ y) in
          counted 4 r (then-first _ _ (simp (← r) at w)) refl
      go false x false y true z w =
          let r : 6 ≡ u16_at t at = sym (eqb-true _ _ z) in
          counted 6 r (simp (← r) at w) refl
      go false x false y false z w = uncounted (u16_at t at) refl (simp (x, y, z))

  -- the fields of format 8 are inside
  pub trimmed-inside : (glyphs : ℕ) → lookup_fault t glyphs at ≡ Clear → u16_at t at ≡ 8 → at + 6 ≤ length t
  unfolding lookup_fault format_fault trimmed_fault
  trimmed-inside glyphs e f =
      let w : trimmed_fault t glyphs at ≡ Clear = simp f at (then-second _ _ e) in
      omega (arith, inside-holds t (at + 4) 2 (then-first _ _ (then-second _ _ w)))

-- a lookup without a fault
module _ (t : List ℕ) (glyphs at : ℕ) (clear : lookup_fault t glyphs at ≡ Clear) where
  -- at most one counted unit covers a glyph
  pub one_unit : (glyph j k : ℕ) → j < unit_count t at → k < unit_count t at → covers t (u16_at t at) glyph (unit_at t at j) ≡ true
      → covers t (u16_at t at) glyph (unit_at t at k) ≡ true → j ≡ k
  one_unit glyph j k h i u v = go (ltb j k) refl (ltb k j) refl
    where
      x : (first_of t (u16_at t at) (unit_at t at j) ≤ glyph) × (glyph ≤ last_of t (unit_at t at j))
      x = covered t (u16_at t at) glyph (unit_at t at j) u

      y : (first_of t (u16_at t at) (unit_at t at k) ≤ glyph) × (glyph ≤ last_of t (unit_at t at k))
      y = covered t (u16_at t at) glyph (unit_at t at k) v

      less : (a b : ℕ) → a < b → b < unit_count t at → last_of t (unit_at t at a) < first_of t (u16_at t at) (unit_at t at b)
      less a b l m = apart t (u16_at t at) (unit_count t at) (at + 12) 0 a b (units-clear t at glyphs clear) l m _ _ refl refl

      go : (b : Bool) → ltb j k ≡ b → (d : Bool) → ltb k j ≡ d → j ≡ k
      go true p d q = absurd (omega (arith, less j k (ltb-true j k p) i, x, y))
      go false p true q = absurd (omega (arith, less k j (ltb-true k j q) h, x, y))
      go false p false q = omega (arith, ltb-false j k p, ltb-false k j q)

  -- and its value is the glyph's
  pub its-value : (glyph k : ℕ) → glyph < glyphs → k < unit_count t at → covers t (u16_at t at) glyph (unit_at t at k) ≡ true
      → value_of t glyphs at glyph ≡ Some (unit_value t (u16_at t at) at glyph (unit_at t at k))
  unfolding has_units
  its-value glyph k g h u =
      value_in_lem t glyphs at glyph g
      ∙ from-units t at glyph (unit_count t at) (at + 12) (u16_at t at) refl (units-not 0 refl) (units-not 8 refl)
      ∙ covering t (u16_at t at) at glyph (unit_count t at) (at + 12) 0 k (unit_at t at k) (units-clear t at glyphs clear) h refl u
    where
      units-not : (f : ℕ) → has_units f ≡ false → u16_at t at ≡ f → ⊥
      units-not f e r = omega (arith, count_none t at f (sym r) e)
