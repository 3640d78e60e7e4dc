-- What follows a cursor: the run of each kind of lookup, over values as the code has read them.
use Rattle.std.specs.Prelude.{None, Some}
use Prim.Native.Nat.{ℕ, ◌+◌, ◌-◌, ◌*◌, ◌≤◌, ◌<◌, ◌^◌, max}
use mathlib.Core.List.{List}
use mathlib.Core.Bool.{Bool, true, false, cond}
use mathlib.Core.Path.{◌≡◌, refl, sym, ◌∙◌, ap}
use native.Mathlib.Omega.{arith}
use lib.Dec.{ltb, eqb}
use borrow.Author.Tests.{le-leb, ltb-true, ltb-false, eqb-true, eqb-false, eq-eqb, ne_eqb}
use Rattle.fields.specs.Faults.{Clear}
use Rattle.fields.specs.Field.{u16_at}
use Rattle.lookup.specs.declared.Cursor.{Cursor}
use Rattle.lookup.specs.Units.{unit_size, last_of, first_of, units_fault}
use Rattle.lookup.specs.Find.{unit_value, units_value, has_units, unit_count, value_from}
use Rattle.lookup.specs.Pass.{Serves}
use Rattle.lookup.proofs.Laws.{count_none, first_range, covers_high, units-next, units-here, units-none, value-2, value-4, value-6, from-0, from-8, from-units, trimmed-low, trimmed-high, trimmed-in}
use Rattle.lookup.proofs.Unique.{begins-above, unit-rules, units-rest, units-first, none_above}
use Rattle.lookup.proofs.Pass.{serves-later, serves-past}
use Rattle.lookup_runs.specs.Runs.{unit_place, Follows}

-- where a unit's values stand, by its format
module _ (t : List ℕ) (f at p : ℕ) where
  place-2 : f ≡ 2 → unit_place t f at p ≡ p + 4
  unfolding unit_place
  place-2 e = simp (eq-eqb f 2 e)

  place-4 : (o : ℕ) → o ≡ u16_at t (p + 4) → (f ≡ 2 → ⊥) → f ≡ 4 → unit_place t f at p ≡ at + o
  unfolding unit_place
  place-4 o r n e = simp (ne_eqb f 2 n, eq-eqb f 4 e, r)

  place-6 : (f ≡ 2 → ⊥) → (f ≡ 4 → ⊥) → unit_place t f at p ≡ p + 2
  unfolding unit_place
  place-6 n m = simp (ne_eqb f 2 n, ne_eqb f 4 m)

is-4 : (f : ℕ) → f ≡ 4 → f ≡ 6 → ⊥
is-4 f e q = let z : ◌≡◌ {A = ℕ} 4 6 = sym e ∙ q in absurd (omega arith)

-- units that begin above a glyph give it nothing
none_before : (t : List ℕ) (f at glyph n p least : ℕ) → 0 < n → units_fault t f n p least ≡ Clear → glyph < first_of t f p
    → units_value t f at glyph n p ≡ None
none_before t f at glyph n p least h e l =
    let rest : units_fault t f (n - 1) (p + unit_size f) (last_of t p + 1) ≡ Clear = units-rest t f n p least _ h refl e in
    let r = unit-rules t f p least (units-first t f n p least h e) in
    units-next t f at glyph n p _ h (begins-above t f glyph p l) refl ∙ none_above t f at glyph (n - 1) _ _ rest (omega arith)

-- a lookup without units has none left
none_left : (t : List ℕ) (at f : ℕ) {glyph : ℕ} {c : Cursor} → u16_at t at ≡ f → has_units f ≡ false → Serves t at glyph c → c.left ≡ 0
none_left t at f e h s = omega (arith, s.counted, count_none t at f (sym e) h)

none-in-0 : has_units 0 ≡ false
unfolding has_units
none-in-0 = refl

none-in-8 : has_units 8 ≡ false
unfolding has_units
none-in-8 = refl

-- format 0: each glyph has a value
module _ (t : List ℕ) (at glyph : ℕ) (c : Cursor) (s : Serves t at glyph c) (few : glyph < 2 ^ 16) (low : at < 2 ^ 32) where
  pub every-follows : u16_at t at ≡ 0
      → Follows t at glyph (record { from = glyph; until = 65536; place = at + 2 + 2 * glyph; array = true; cursor = c })
  every-follows e =
      record {
        begins = omega arith;
        more = omega arith;
        near = omega arith;
        none = λ g a b _. absurd (omega arith);
        some = λ g a b _.
            let q : at + 2 + 2 * g ≡ at + 2 + 2 * glyph + 2 * (g - glyph) = omega arith in
            from-0 t at g _ _ (u16_at t at) refl e ∙ ap (λ (x : ℕ). Some (u16_at t x)) q;
        serves = serves-later t at glyph 65536 (omega arith) (none_left t at 0 e none-in-0 s) s;
      }

  -- format 8: `first` and `count` as they were read
  module _ (first count : ℕ) (e : u16_at t at ≡ 8) (f : first ≡ u16_at t (at + 2)) (n : count ≡ u16_at t (at + 4)) where
    trimmed-none : (g : ℕ) → glyph ≤ g → g < first → value_from t at g (unit_count t at) (at + 12) ≡ None
    trimmed-none g a b = from-8 t at g _ _ (u16_at t at) refl e ∙ trimmed-low t at g first count f n b

    trimmed-past : (g : ℕ) → first + count ≤ g → value_from t at g (unit_count t at) (at + 12) ≡ None
    trimmed-past g b = from-8 t at g _ _ (u16_at t at) refl e ∙ trimmed-high t at g first count f n b

    pub trimmed-ends : (from : ℕ) → from ≡ max first glyph → first + count ≤ from
        → Follows t at glyph (record { from = 65536; until = 65537; place = 0; array = false; cursor = c })
    trimmed-ends from m h =
        record {
          begins = omega arith;
          more = omega arith;
          near = omega arith;
          none = λ g a b _. go g a (ltb g first) refl;
          some = λ g a b l. absurd (omega arith);
          serves = serves-later t at glyph 65537 (omega arith) (none_left t at 8 e none-in-8 s) s;
        }
      where
        go : (g : ℕ) → glyph ≤ g → (b : Bool) → ltb g first ≡ b → value_from t at g (unit_count t at) (at + 12) ≡ None
        go g a true w = trimmed-none g a (ltb-true g first w)
        go g a false w = let l : first ≤ g = ltb-false g first w in trimmed-past g (omega arith)

    pub trimmed-follows : (from : ℕ) → from ≡ max first glyph → from < first + count → first < 2 ^ 16
        → Follows t at glyph (record { from = from; until = first + count; place = at + 6 + 2 * (from - first); array = true; cursor = c })
    trimmed-follows from m h l =
        record {
          begins = omega arith;
          more = h;
          near = omega arith;
          none = λ g a b _. trimmed-none g a (omega arith);
          some = λ g a b _.
              let q : at + 6 + 2 * (g - first) ≡ at + 6 + 2 * (from - first) + 2 * (g - from) = omega arith in
              from-8 t at g _ _ (u16_at t at) refl e
              ∙ trimmed-in t at g first count f n (omega arith) (omega arith)
              ∙ ap (λ (x : ℕ). Some (u16_at t x)) q;
          serves = serves-later t at glyph (first + count) (omega arith) (none_left t at 8 e none-in-8 s) s;
        }

-- formats with units: the next unit, if one is left, gives the run
module _ (t : List ℕ) (at glyph : ℕ) (c : Cursor) (s : Serves t at glyph c) (few : glyph < 2 ^ 16) (f : ℕ) (is : f ≡ u16_at t at)
    (no-0 : f ≡ 0 → ⊥) (no-8 : f ≡ 8 → ⊥) where
  by_units : (g : ℕ) → glyph ≤ g → value_from t at g (unit_count t at) (at + 12) ≡ units_value t f at g c.left c.at
  by_units g h = sym (s.same g h) ∙ from-units t at g c.left c.at f is no-0 no-8

  rising : units_fault t f c.left c.at glyph ≡ Clear
  rising = simp is s.rising

  pub units-end : c.left ≡ 0 → Follows t at glyph (record { from = 65536; until = 65537; place = 0; array = false; cursor = c })
  units-end e =
      record {
        begins = omega arith;
        more = omega arith;
        near = omega arith;
        none = λ g a b _. by_units g a ∙ units-none t f at g c.left c.at (omega arith);
        some = λ g a b l. absurd (omega arith);
        serves = serves-later t at glyph 65537 (omega arith) e s;
      }

  -- `from`, `place`, `last` and `q`, where the unit after it stands, are as the code has them
  module _ (from place : ℕ) (left : 0 < c.left) (d : from ≡ first_of t f c.at) (v : place ≡ unit_place t f at c.at) where
    rules : (glyph ≤ first_of t f c.at) × (first_of t f c.at ≤ last_of t c.at)
    rules = unit-rules t f c.at glyph (units-first t f c.left c.at glyph left rising)

    before : (g : ℕ) → glyph ≤ g → g < from → value_from t at g (unit_count t at) (at + 12) ≡ None
    before g a b = by_units g a ∙ none_before t f at g c.left c.at glyph left rising (omega arith)

    among : (g : ℕ) → from ≤ g → g ≤ last_of t c.at → value_from t at g (unit_count t at) (at + 12) ≡ Some (unit_value t f at g c.at)
    among g a b =
        by_units g (omega (arith, rules.0))
        ∙ units-here t f at g c.left c.at left
        (covers_high t f g c.at (first_of t f c.at) refl (last_of t c.at) refl (omega arith) ∙ le-leb g (last_of t c.at) b)

    -- only format 4 gives the glyphs of a unit values of their own
    there : (g : ℕ) → from ≤ g → unit_value t f at g c.at ≡ u16_at t (cond (eqb f 4) (place + 2 * (g - from)) place)
    there g a = go (eqb f 2) refl (eqb f 4) refl
      where
        go : (x : Bool) → eqb f 2 ≡ x → (y : Bool) → eqb f 4 ≡ y → unit_value t f at g c.at ≡ u16_at t (cond y (place + 2 * (g - from)) place)
        go true x true y = let z : ◌≡◌ {A = ℕ} 2 4 = sym (eqb-true f 2 x) ∙ eqb-true f 4 y in absurd (omega arith)
        go true x false y =
            let is-2 = eqb-true f 2 x in
            value-2 t f at g c.at is-2 ∙ ap (u16_at t) (sym (v ∙ place-2 t f at c.at is-2))
        go false x true y =
            let of-4 : f ≡ 4 = eqb-true f 4 y in
            let p : place ≡ at + u16_at t (c.at + 4) = v ∙ place-4 t f at c.at _ refl (eqb-false f 2 x) of-4 in
            let o : from ≡ u16_at t (c.at + 2) = d ∙ first_range t f c.at (is-4 f of-4) in
            let q : at + u16_at t (c.at + 4) + 2 * (g - from) ≡ place + 2 * (g - from) = omega arith in
            value-4 t f at g c.at _ from refl o (eqb-false f 2 x) of-4 ∙ ap (u16_at t) q
        go false x false y =
            let no-2 = eqb-false f 2 x in
            let no-4 = eqb-false f 4 y in
            value-6 t f at g c.at no-2 no-4 ∙ ap (u16_at t) (sym (v ∙ place-6 t f at c.at no-2 no-4))

    pub unit-follows : (last q : ℕ) → place < 2 ^ 41 → last ≡ last_of t c.at → q ≡ c.at + unit_size f → q ≤ c.at + 6
        → Follows t at glyph
        (record { from = from; until = last + 1; place = place; array = eqb f 4; cursor = record { at = q; left = c.left - 1 } })
    unit-follows last q k l e near =
        let step : q ≡ c.at + unit_size (u16_at t at) = e ∙ ap (λ (x : ℕ). c.at + unit_size x) is in
        record {
          begins = omega (arith, rules.0);
          more = omega (arith, rules.1);
          near = k;
          none = λ g a b _. before g a b;
          some = λ g a b _. among g a (omega arith) ∙ ap Some (there g a);
          serves = serves-past t at glyph c.at c.left q last s left l step (omega (arith, s.near));
        }
