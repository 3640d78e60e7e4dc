-- Laws of the definitions, one for each outcome, over values as the code has read them.
use Rattle.std.specs.Prelude.{None, Some}
use Prim.Native.Nat.{ℕ, zero, suc, ◌+◌, ◌-◌, ◌*◌, ◌/◌, ◌^◌, ◌≤◌, ◌<◌}
use mathlib.Core.List.{List}
use mathlib.Core.Bool.{Bool, true, false, cond}
use mathlib.Core.Path.{◌≡◌, refl, sym, ◌∙◌, ap, ap₂}
use native.Mathlib.Omega.{arith}
use lib.ListN.{length}
use lib.Dec.{leb, eqb}
use borrow.Author.Tests.{le-leb, lt-leb, leb-true, leb-false, le-ltb, lt-ltb, eq-eqb, ne_eqb}
use Rattle.fields.specs.declared.Refusal.TheVariants.{Outside, BadLookup}
use Rattle.fields.specs.Faults.{Clear, Bad}
use Rattle.fields.specs.Field.{u16_at, Bytes}
use Rattle.fields.specs.Faults.{rule, inside}
use Rattle.fields.proofs.Laws.{u16_at-fits, then-go, then-stop, rule-clear, clear-inside, bad-inside}
use Rattle.fields.specs.Walk.{walk}
use Rattle.lookup.specs.Units.{unit_size, last_of, first_of, range_fault, single_fault, unit_fault, array_fault}
use Rattle.lookup.specs.Find.{covers, unit_value, units_value, has_units, unit_count, trimmed_value, value_from, value_of}

down : (n : ℕ) → suc n - 1 ≡ n
down n = omega arith

-- ---- format 6's units, and those of the others

pub size-single : (f : ℕ) → f ≡ 6 → unit_size f ≡ 4
unfolding unit_size
size-single f e = simp (eq-eqb f 6 e)

pub size-least : (f : ℕ) → 4 ≤ unit_size f
unfolding unit_size
size-least f = go (eqb f 6)
  where
    go : (b : Bool) → 4 ≤ cond b 4 6
    go true = omega arith
    go false = omega arith

pub size-range : (f : ℕ) → (f ≡ 6 → ⊥) → unit_size f ≡ 6
unfolding unit_size
size-range f e = simp (ne_eqb f 6 e)

module _ (t : List ℕ) (f p : ℕ) where
  pub first-single : f ≡ 6 → first_of t f p ≡ u16_at t p
  unfolding first_of
  first-single e = simp (eq-eqb f 6 e)

  pub first_range : (f ≡ 6 → ⊥) → first_of t f p ≡ u16_at t (p + 2)
  unfolding first_of
  first_range e = simp (ne_eqb f 6 e)

  pub unit-single : (least : ℕ) → f ≡ 6 → unit_fault t f p least ≡ single_fault t p least
  unfolding unit_fault
  unit-single least e = simp (eq-eqb f 6 e)

  pub unit-range : (least : ℕ) → (f ≡ 6 → ⊥) → unit_fault t f p least ≡ range_fault t p least
  unfolding unit_fault
  unit-range least e = simp (ne_eqb f 6 e)

-- ---- an array's first value that is not inside

leb-more : (n m : ℕ) → leb n m ≡ leb (suc n) (m + 1)
leb-more n m = go (leb n m) refl
  where
    go : (b : Bool) → leb n m ≡ b → leb n m ≡ leb (suc n) (m + 1)
    go true e =
        let l : n ≤ m = leb-true n m e in
        e ∙ sym (le-leb (suc n) (m + 1) (omega arith))
    go false e =
        let l : m < n = leb-false n m e in
        e ∙ sym (lt-leb (suc n) (m + 1) (omega arith))

pub array-room : (t : List ℕ) (n p : ℕ) → array_fault t n p ≡ rule (leb n ((length t - p) / 2)) Outside (p + 2 * ((length t - p) / 2))
unfolding walk rule
array-room t zero p = simp (le-leb 0 ((length t - p) / 2) (omega arith))
array-room t (suc n) p = go (leb (p + 2) (length t)) refl (array-room t n (p + 2))
  where
    go : (b : Bool) → leb (p + 2) (length t) ≡ b
        → array_fault t n (p + 2) ≡ rule (leb n ((length t - (p + 2)) / 2)) Outside (p + 2 + 2 * ((length t - (p + 2)) / 2))
        → array_fault t (suc n) p ≡ rule (leb (suc n) ((length t - p) / 2)) Outside (p + 2 * ((length t - p) / 2))
    go true e rest =
        let h : p + 2 ≤ length t = leb-true (p + 2) (length t) e in
        let m : (length t - (p + 2)) / 2 + 1 ≡ (length t - p) / 2 = omega arith in
        let q : p + 2 + 2 * ((length t - (p + 2)) / 2) ≡ p + 2 * ((length t - p) / 2) = omega arith in
        then-go _ (clear-inside t p 2 h) ∙ rest
        ∙ ap₂ (λ (b : Bool) (k : ℕ). rule b Outside k)
        (leb-more n ((length t - (p + 2)) / 2) ∙ ap (leb (suc n)) m) q
    go false e rest =
        let h : length t < p + 2 = leb-false (p + 2) (length t) e in
        let m : (length t - p) / 2 ≡ 0 = omega arith in
        let z : p + 2 * ((length t - p) / 2) ≡ p = omega arith in
        let b : inside t p 2 ≡ Bad Outside p = bad-inside t p 2 h in
        then-stop _ b ∙ b ∙ simp (z, lt-leb (suc n) ((length t - p) / 2) (omega arith))

-- ---- the unit that covers a glyph, `f` and `l` being its first and last glyph as they were read

pub covers_high : (t : List ℕ) (format glyph p f : ℕ) → f ≡ first_of t format p → (l : ℕ) → l ≡ last_of t p → f ≤ glyph
    → covers t format glyph p ≡ leb glyph l
unfolding covers
covers_high t format glyph p f r l s h = simp (← r, ← s, le-leb f glyph h)

module _ (t : List ℕ) (format at glyph : ℕ) where
  pub units-here : (n p : ℕ) → 0 < n → covers t format glyph p ≡ true
      → units_value t format at glyph n p ≡ Some (unit_value t format at glyph p)
  unfolding units_value
  units-here zero p h e = absurd (omega arith)
  units-here (suc n) p h e = simp e

  -- `q` is the unit after `p` as the code has it
  pub units-next : (n p q : ℕ) → 0 < n → covers t format glyph p ≡ false → q ≡ p + unit_size format
      → units_value t format at glyph n p ≡ units_value t format at glyph (n - 1) q
  unfolding units_value
  units-next zero p q h e s = absurd (omega arith)
  units-next (suc n) p q h e s = simp (e, down n, s)

  pub units-none : (n p : ℕ) → n ≤ 0 → units_value t format at glyph n p ≡ None
  unfolding units_value
  units-none zero p h = refl
  units-none (suc n) p h = absurd (omega arith)

  module _ (p : ℕ) where
    pub value-2 : format ≡ 2 → unit_value t format at glyph p ≡ u16_at t (p + 4)
    unfolding unit_value
    value-2 e = simp (eq-eqb format 2 e)

    pub value-4 : (o f : ℕ) → o ≡ u16_at t (p + 4) → f ≡ u16_at t (p + 2) → (format ≡ 2 → ⊥) → format ≡ 4
        → unit_value t format at glyph p ≡ u16_at t (at + o + 2 * (glyph - f))
    unfolding unit_value
    value-4 o f r s n e = simp (ne_eqb format 2 n, eq-eqb format 4 e, r, s)

    pub value-6 : (format ≡ 2 → ⊥) → (format ≡ 4 → ⊥) → unit_value t format at glyph p ≡ u16_at t (p + 2)
    unfolding unit_value
    value-6 n m = simp (ne_eqb format 2 n, ne_eqb format 4 m)

-- ---- the counted units

module _ (t : List ℕ) (at f : ℕ) (r : f ≡ u16_at t at) where
  pub count-some : has_units f ≡ true → unit_count t at ≡ u16_at t (at + 4)
  unfolding unit_count
  count-some e = simp (← r, e)

  pub count_none : has_units f ≡ false → unit_count t at ≡ 0
  unfolding unit_count
  count_none e = simp (← r, e)

pub units-fit : (t : List ℕ) (at : ℕ) → Bytes t → unit_count t at < 2 ^ 16
unfolding unit_count
units-fit t at b = go (has_units (u16_at t at))
  where
    go : (c : Bool) → cond c (u16_at t (at + 4)) 0 < 2 ^ 16
    go true = u16_at-fits t (at + 4) b
    go false = omega arith

-- ---- format 8, `f` and `n` being the first glyph and the count as they were read

module _ (t : List ℕ) (at glyph f n : ℕ) (r : f ≡ u16_at t (at + 2)) (s : n ≡ u16_at t (at + 4)) where
  pub trimmed-low : glyph < f → trimmed_value t at glyph ≡ None
  unfolding trimmed_value
  trimmed-low h = simp (← r, ← s, lt-leb f glyph h)

  pub trimmed-high : f + n ≤ glyph → trimmed_value t at glyph ≡ None
  unfolding trimmed_value
  trimmed-high h =
      let l : f ≤ glyph = omega arith in
      simp (← r, ← s, le-leb f glyph l, le-ltb glyph (f + n) h)

  pub trimmed-in : f ≤ glyph → glyph < f + n → trimmed_value t at glyph ≡ Some (u16_at t (at + 6 + 2 * (glyph - f)))
  unfolding trimmed_value
  trimmed-in l h = simp (← r, ← s, le-leb f glyph l, lt-ltb glyph (f + n) h)

-- ---- the value at a glyph

module _ (t : List ℕ) (at glyph n p f : ℕ) (r : f ≡ u16_at t at) where
  pub from-0 : f ≡ 0 → value_from t at glyph n p ≡ Some (u16_at t (at + 2 + 2 * glyph))
  unfolding value_from
  from-0 e = simp (← r, e)

  pub from-8 : f ≡ 8 → value_from t at glyph n p ≡ trimmed_value t at glyph
  unfolding value_from
  from-8 e = simp (← r, e)

  pub from-units : (f ≡ 0 → ⊥) → (f ≡ 8 → ⊥) → value_from t at glyph n p ≡ units_value t f at glyph n p
  unfolding value_from
  from-units n0 n8 = simp (← r, ne_eqb f 0 n0, ne_eqb f 8 n8)

module _ (t : List ℕ) (glyphs at glyph : ℕ) where
  pub value_none : glyphs ≤ glyph → value_of t glyphs at glyph ≡ None
  unfolding value_of
  value_none h = simp (le-ltb glyph glyphs h)

  pub value_in_lem : glyph < glyphs → value_of t glyphs at glyph ≡ value_from t at glyph (unit_count t at) (at + 12)
  unfolding value_of
  value_in_lem h = simp (lt-ltb glyph glyphs h)

-- a unit of formats 2 and 4 that lies inside, rises and is in order has no fault
pub range_clear : (t : List ℕ) (p least first last : ℕ) → p + 6 ≤ length t → first ≡ u16_at t (p + 2) → last ≡ u16_at t p → least ≤ first → first ≤ last
    → range_fault t p least ≡ Clear
unfolding range_fault
range_clear t p least first last h f l a b =
    then-go _ (clear-inside t p 2 (omega arith))
    ∙ then-go _ (clear-inside t (p + 2) 2 (omega arith))
    ∙ then-go _ (rule-clear BadLookup (p + 2) (le-leb least (u16_at t (p + 2)) (omega arith)))
    ∙ then-go _ (rule-clear BadLookup (p + 2) (le-leb (u16_at t (p + 2)) (u16_at t p) (omega arith)))
    ∙ clear-inside t (p + 4) 2 (omega arith)

-- and one of format 6 that lies inside and rises
pub single-clear : (t : List ℕ) (p least glyph : ℕ) → p + 4 ≤ length t → glyph ≡ u16_at t p → least ≤ glyph → single_fault t p least ≡ Clear
unfolding single_fault
single-clear t p least glyph h e a =
    then-go _ (clear-inside t p 2 (omega arith))
    ∙ then-go _ (rule-clear BadLookup p (le-leb least (u16_at t p) (omega arith)))
    ∙ clear-inside t (p + 2) 2 (omega arith)

-- what the code of the units and of the arrays needs
pub ruleset lookup_steps = (range_clear, single-clear, array-room)
