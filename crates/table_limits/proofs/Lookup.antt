-- The lookup with a closing unit that is counted has no fault wherever it stands; glyph 0 has its value, and no other glyph of a font has one.
use Rattle.std.specs.Prelude.{None, Option, Some}
use Prim.Native.Nat.{ℕ, zero, suc, ◌+◌, ◌*◌, ◌≤◌, ◌<◌}
use mathlib.Core.Path.{◌≡◌, refl, sym, ap, ◌∙◌}
use mathlib.Core.List.{List}
use native.Mathlib.Omega.{arith}
use lib.Dec.{eqb}
use lib.ListN.{length}
use borrow.Author.Tests.{le-leb}
use Rattle.fields.specs.declared.Refusal.TheVariants.{BadLookup}
use Rattle.fields.specs.Faults.{Clear}
use Rattle.fields.specs.Field.{u16_at}
use Rattle.fields.specs.Walk.{walk}
use Rattle.fields.proofs.Laws.{rule-clear}
use Rattle.lookup.specs.Units.{unit_size, last_of, first_of, unit_fault, units_fault}
use Rattle.lookup.specs.Lookup.{counted_fault, format_fault, lookup_fault}
use Rattle.lookup.specs.Find.{units_value, has_units, unit_count, value_of}
use Rattle.lookup.proofs.Laws.{single-clear, value_in_lem, from-units, count-some, covers_high, units-here, units-next, units-none, value-6, size-single}
use Rattle.lookup.proofs.Unique.{ends-below, begins-above}
use Rattle.lookup_targets.specs.declared.Kind.{Kind}
use Rattle.lookup_targets.specs.Values.{spot_of, spot_fault, target_fault, values_fault}
use Rattle.table_limits.specs.Full.{lookup_of}
use Rattle.table_limits.proofs.Stands.{Stands, found, u16-is, ◌so◌, each-clear}

pub lookup-length : (v : ℕ) → length (lookup_of v) ≡ 20
unfolding lookup_of
lookup-length v = refl

lookup-fields : (v : ℕ) → (u16_at (lookup_of v) 0 ≡ 6) × (u16_at (lookup_of v) 2 ≡ 4) × (u16_at (lookup_of v) 4 ≡ 2) × (u16_at (lookup_of v) 12 ≡ 0) × (u16_at (lookup_of v) 16 ≡ 65535)
unfolding lookup_of u16_at
lookup-fields v = (refl, refl, refl, refl, refl)

lookup-value : (v : ℕ) → v < 65536 → u16_at (lookup_of v) 14 ≡ v
unfolding lookup_of u16_at
lookup-value v h = omega arith

module _ (t : List ℕ) (n at v : ℕ) (s : Stands t at (lookup_of v)) where
  m : length (lookup_of v) ≡ 20
  m = lookup-length v

  format-is : u16_at t at ≡ 6
  format-is = u16-is s at 0 (omega arith) (omega (arith, m)) ∙ (lookup-fields v).0

  size_is : u16_at t (at + 2) ≡ 4
  size_is = u16-is s (at + 2) 2 refl (omega (arith, m)) ∙ (lookup-fields v).1

  count-is : u16_at t (at + 4) ≡ 2
  count-is = u16-is s (at + 4) 4 refl (omega (arith, m)) ∙ (lookup-fields v).2

  first-is : u16_at t (at + 12) ≡ 0
  first-is = u16-is s (at + 12) 12 refl (omega (arith, m)) ∙ (lookup-fields v).3

  -- the second unit is the closing one
  pub closing-is : u16_at t (at + 12 + 4) ≡ 65535
  closing-is = u16-is s (at + 12 + 4) 16 (omega arith) (omega (arith, m)) ∙ (lookup-fields v).4

  units-clear : units_fault t 6 2 (at + 12) 0 ≡ Clear
  unfolding walk unit_fault unit_size
  units-clear =
      single-clear t (at + 12) 0 0 (omega (arith, s.within, m)) (sym first-is) (omega arith)
      so single-clear t (at + 12 + 4) (last_of t (at + 12) + 1) 65535 (omega (arith, s.within, m)) (sym closing-is) (omega (arith, first-is))
      so refl

  counted-clear : counted_fault t 6 at ≡ Clear
  unfolding counted_fault unit_size
  counted-clear =
      found s (at + 2) 2 refl 2 (omega (arith, m))
      so rule-clear BadLookup (at + 2) (ap (λ (x : ℕ). eqb x 4) size_is)
      so found s (at + 4) 4 refl 2 (omega (arith, m))
      so (ap (λ (k : ℕ). units_fault t 6 k (at + 12) 0) count-is ∙ units-clear)

  pub lookup-clear : lookup_fault t n at ≡ Clear
  unfolding lookup_fault format_fault
  lookup-clear = found s at 0 (omega arith) 2 (omega (arith, m)) so (ap (format_fault t n at) format-is ∙ counted-clear)

  -- ---- values

  module _ (g : ℕ) (below : g < n) where
    from-two : value_of t n at g ≡ units_value t 6 at g 2 (at + 12)
    unfolding has_units
    from-two =
        value_in_lem t n at g below
        ∙ from-units t at g (unit_count t at) (at + 12) 6 (sym format-is) (λ e. omega arith) (λ e. omega arith)
        ∙ ap (λ (k : ℕ). units_value t 6 at g k (at + 12)) (count-some t at 6 (sym format-is) refl ∙ count-is)

    first-of : first_of t 6 (at + 12) ≡ 0
    unfolding first_of
    first-of = first-is

    closing-of : first_of t 6 (at + 12 + 4) ≡ 65535
    unfolding first_of
    closing-of = closing-is

    pub value-first : v < 65536 → g ≡ 0 → value_of t n at g ≡ Some v
    value-first h e =
        from-two
        ∙ units-here t 6 at g 2 (at + 12) (omega arith)
        (covers_high t 6 g (at + 12) 0 (sym first-of) 0 (sym first-is) (omega arith) ∙ le-leb g 0 (omega arith))
        ∙ ap Some (value-6 t 6 at g (at + 12) (λ e. omega arith) (λ e. omega arith) ∙ u16-is s (at + 12 + 2) 14 (omega arith) (omega (arith, m)) ∙ lookup-value v h)

    pub value-other : n ≤ 65535 → 0 < g → value_of t n at g ≡ None
    value-other h l =
        from-two
        ∙ units-next t 6 at g 2 (at + 12) (at + 12 + 4) (omega arith) (ends-below t 6 g (at + 12) (omega (arith, first-is))) (ap (λ (k : ℕ). at + 12 + k) (sym (size-single 6 refl)))
        ∙ units-next t 6 at g 1 (at + 12 + 4) (at + 12 + 4 + 4) (omega arith) (begins-above t 6 g (at + 12 + 4) (omega (arith, closing-of))) (ap (λ (k : ℕ). at + 12 + 4 + k) (sym (size-single 6 refl)))
        ∙ units-none t 6 at g 0 (at + 12 + 4 + 4) (omega arith)

  -- ---- what the values lead to

  module _ (kind : Kind) (base : ℕ) (few : n ≤ 65535) (small : v < 65536) (item : spot_fault t n kind (spot_of kind base (Some v)) ≡ Clear) where
    glyph-clear : (g : ℕ) → g < n → target_fault t n kind at base g ≡ Clear
    unfolding target_fault
    glyph-clear zero h = ap (λ (f : Option ℕ). spot_fault t n kind (spot_of kind base f)) (value-first 0 h small refl) ∙ item
    glyph-clear (suc g) h = ap (λ (f : Option ℕ). spot_fault t n kind (spot_of kind base f)) (value-other (suc g) h few (omega arith))

    pub values-clear : values_fault t n kind at base ≡ Clear
    unfolding values_fault
    values-clear = lookup-clear so each-clear (target_fault t n kind at base) 1 n 0 (λ i l. glyph-clear (0 + 1 * i) (omega arith))
