-- Laws of the looks that a call reports: their bound, and where there are none.
use Prim.Native.Nat.{ℕ, zero, suc, ◌+◌, ◌-◌, ◌*◌, ◌≤◌, ◌<◌, ◌^◌}
use Rattle.std.specs.Int.Count.{count_leading_zeros}
use Rattle.std.proofs.lemmas.Nat.{leading_length}
use Rattle.std.proofs.Math.Pow.{pow_mono}
use native.Mathlib.Omega.{arith}
use mathlib.Core.Path.{◌≡◌, refl, ap, ◌∙◌}
use mathlib.Core.Bool.{Bool, true, false, cond}
use mathlib.Core.List.{List}
use lib.Dec.{ltb}
use borrow.Author.Tests.{ltb-true, ltb-false}
use Rattle.fields.specs.Faults.{FirstFault}
use Rattle.fields.specs.Refusals.{number_of}
use Rattle.fields.specs.Field.{u16_at, Bytes}
use Rattle.types.specs.declared.Direction.{Direction}
use Rattle.std.specs.Prelude.{Option, Some, None, Ok, Err}
use Rattle.lookup.specs.Find.{has_units, unit_count, value_of}
use Rattle.lookup.proofs.Laws.{count_none, units-fit}
use Rattle.lookup_find.specs.Halves.{open_count, looks_of}
use Rattle.lookup_find.specs.declared.Head.{Head}
use Rattle.lookup_find.proofs.Laws.{looks-bound, open-most}
use Rattle.lookup_targets.specs.declared.Kind.{Kind}
use Rattle.table.specs.Table.{table_fault}
use Rattle.table_laws.specs.Offsets.{Offset, Placed}
use Rattle.table_laws.proofs.Placed.{placed-bad, placed-table}
use Rattle.table_ask.specs.declared.Lookup.{Lookup}
use Rattle.table_ask.specs.Places.{there, lookup_in}
use Rattle.table_find.specs.Values.{barred, units_barred, units_said, units_asked, with_looks, found_in, unless_refused, value_asked, units_in, least_from, least_over, looks_said}

-- ---- the least power of 2 above a number

over-self : (n : ℕ) → n < 2 ^ n
over-self zero = omega arith
over-self (suc n) = omega (arith, over-self n)

doubled : (b : ℕ) → 2 ^ (b + 1) ≡ 2 ^ b * 2
doubled b = let z : b + 1 ≡ suc b = omega arith in rw z (omega arith)

over-from : (n turns b : ℕ) → n < 2 ^ (b + turns) → n < 2 ^ least_from turns b n
unfolding least_from
over-from n zero b h =
    let z : b + 0 ≡ b = omega arith in
    rw z at h
over-from n (suc turns) b h =
    let z : b + suc turns ≡ b + 1 + turns = omega arith in
    go (ltb n (2 ^ b)) refl (over-from n turns (b + 1) (rw z at h))
  where
    go : (c : Bool) → ltb n (2 ^ b) ≡ c → n < 2 ^ least_from turns (b + 1) n → n < 2 ^ cond c b (least_from turns (b + 1) n)
    go true e i = ltb-true _ _ e
    go false e i = i

-- 2 to the power `least_over n` exceeds n
pub least-over : (n : ℕ) → n < 2 ^ least_over n
least-over n =
    let z : 0 + n ≡ n = omega arith in
    over-from n n 0 (rw z (over-self n))

past : (n b c : ℕ) → n < 2 ^ c → 2 ^ b ≤ n → b ≤ c → b + 1 ≤ c
past n b c h i l =
    let e : b ≡ c → ⊥ = λ e. omega (arith, h, rw e at i) in
    omega (arith, e, l)

least-from : (n c turns b : ℕ) → n < 2 ^ c → b ≤ c → least_from turns b n ≤ c
unfolding least_from
least-from n c zero b h l = l
least-from n c (suc turns) b h l = go (ltb n (2 ^ b)) refl (λ i. least-from n c turns (b + 1) h (past n b c h i l))
  where
    go : (d : Bool) → ltb n (2 ^ b) ≡ d → (2 ^ b ≤ n → least_from turns (b + 1) n ≤ c) → cond d b (least_from turns (b + 1) n) ≤ c
    go true e r = l
    go false e r = r (ltb-false _ _ e)

-- and no lesser power does
pub least-least : (n c : ℕ) → n < 2 ^ c → least_over n ≤ c
least-least n c h = least-from n c n 0 h (omega arith)

-- the bits of a number from its highest on
pub bits_over : (n : ℕ) → n < 2 ^ 64 → 64 - count_leading_zeros 64 n ≡ least_over n
bits_over n h =
    let p = leading_length 64 n h in
    let m : ℕ = p.0 in
    let c : ℕ = least_over n in
    let most : c ≤ m = least-least n m p.2 in
    let less : c + 1 ≤ m → ⊥ = λ l. let w : 2 ^ (c + 1) ≤ 2 ^ m = pow_mono l in let e : 2 ^ (c + 1) ≡ 2 ^ c * 2 = doubled c in omega (arith, p.3, least-over n, w, e) in
    omega (arith, p.1, less, most)

-- ---- the units of a lookup

pub units-few : (t : List ℕ) (l : Option Lookup) → Bytes t → units_in t l < 2 ^ 16
units-few t None b = omega arith
units-few t (Some l) b = omega (arith, open-most t (u16_at t l.at) (l.at + 12) (unit_count t l.at), units-fit t l.at b)

-- ---- the looks

looks-with : (k : ℕ) (f : Option ℕ) → looks_said (with_looks k f) ≡ k
looks-with k (Some v) = refl
looks-with k None = refl

-- what a lookup says of looks, a call does
said : (P : ℕ → Type 0) (t : List ℕ) (n : ℕ) (d : Direction) (kind : Kind) (g : ℕ)
    → P 0 → P (looks_said (found_in t n (lookup_in t d kind) g)) → P (looks_said (value_asked t n d kind g))
unfolding value_asked
said P t n d kind g z h = go (table_fault t n)
  where
    go : (f : FirstFault) → P (looks_said (unless_refused f (found_in t n (lookup_in t d kind) g)))
    go (Ok u) = h
    go (Err f) = z

-- formats 0 and 8 have no units
open-unitless : (t : List ℕ) (at : ℕ) → has_units (u16_at t at) ≡ false → open_count t at ≡ 0
open-unitless t at e = omega (arith, count_none t at (u16_at t at) refl e, open-most t (u16_at t at) (at + 12) (unit_count t at))

module _ (t : List ℕ) (n : ℕ) where
  -- at most the least b for which 2 to the power b exceeds the units
  lookup-bound : (l : Option Lookup) (g : ℕ) → looks_said (found_in t n l g) ≤ least_over (units_in t l)
  lookup-bound None g = omega arith
  lookup-bound (Some l) g =
      omega (arith, looks-with (looks_of t l.at g) (value_of t n l.at g), looks-bound t l.at g (least_over (open_count t l.at)) (least-over (open_count t l.at)))

  lookup-deleted : (l : Option Lookup) → looks_said (found_in t n l 65535) ≡ 0
  unfolding looks_of
  lookup-deleted None = refl
  lookup-deleted (Some l) = looks-with 0 (value_of t n l.at 65535)

  module _ (d : Direction) (kind : Kind) where
    pub asked-bound : (g : ℕ) → looks_said (value_asked t n d kind g) ≤ least_over (units_in t (lookup_in t d kind))
    asked-bound g = said (λ (k : ℕ). k ≤ least_over (units_in t (lookup_in t d kind))) t n d kind g (omega arith) (lookup-bound (lookup_in t d kind) g)

    -- none where there are no units
    pub asked-none : (g : ℕ) → units_in t (lookup_in t d kind) ≡ 0 → looks_said (value_asked t n d kind g) ≡ 0
    asked-none g e =
        let b : least_over (units_in t (lookup_in t d kind)) ≤ 0 = least-least _ 0 (omega (arith, e)) in
        omega (arith, asked-bound g, b)

    -- none for a deleted glyph
    pub asked-deleted : looks_said (value_asked t n d kind 65535) ≡ 0
    asked-deleted = said (λ (k : ℕ). k ≡ 0) t n d kind 65535 refl (lookup-deleted (lookup_in t d kind))

    -- none in formats 0 and 8
    asked-unitless : {at base : ℕ} {head : Head} (g : ℕ) → lookup_in t d kind ≡ there at base head → has_units (u16_at t at) ≡ false → looks_said (value_asked t n d kind g) ≡ 0
    asked-unitless {at} g e h = asked-none g (ap (units_in t) e ∙ open-unitless t at h)

    pub asked-0 : {at base : ℕ} {head : Head} (g : ℕ) → lookup_in t d kind ≡ there at base head → u16_at t at ≡ 0 → looks_said (value_asked t n d kind g) ≡ 0
    unfolding has_units
    asked-0 g e h = asked-unitless g e (simp h)

    pub asked-8 : {at base : ℕ} {head : Head} (g : ℕ) → lookup_in t d kind ≡ there at base head → u16_at t at ≡ 8 → looks_said (value_asked t n d kind g) ≡ 0
    unfolding has_units
    asked-8 g e h = asked-unitless g e (simp h)

-- ---- a refusal's offset is 0 unless its number is 4 to 8 (document 02, 4/14)

module _ (t : List ℕ) (n : ℕ) (d : Direction) (kind : Kind) (number at : ℕ) where
  with-no-bar : (k : ℕ) (f : Option ℕ) → with_looks k f ≡ barred number at → ⊥
  with-no-bar k (Some v) e = let z : ◌≡◌ {A = ℕ} 0 1 = cc in omega arith
  with-no-bar k None e = let z : ◌≡◌ {A = ℕ} 0 1 = cc in omega arith

  found-no-bar : (l : Option Lookup) (g : ℕ) → found_in t n l g ≡ barred number at → ⊥
  found-no-bar None g e = let z : ◌≡◌ {A = ℕ} 0 1 = cc in omega arith
  found-no-bar (Some l) g e = with-no-bar (looks_of t l.at g) (value_of t n l.at g) e

  pub placed-value : (g : ℕ) → value_asked t n d kind g ≡ barred number at → Offset number at
  unfolding value_asked
  placed-value g e = go (table_fault t n) (placed-table t n) e
    where
      go : (f : FirstFault) → Placed f → unless_refused f (found_in t n (lookup_in t d kind) g) ≡ barred number at → Offset number at
      go (Ok u) p e = absurd (found-no-bar (lookup_in t d kind) g e)
      go (Err f) p e = let k : number_of f.refusal ≡ number = cc in let j : f.at ≡ at = cc in rw (k, j) at (placed-bad p refl)

  pub placed-units : units_asked t n d kind ≡ units_barred number at → Offset number at
  unfolding units_asked
  placed-units e = go (table_fault t n) (placed-table t n) e
    where
      go : (f : FirstFault) → Placed f → units_said f (units_in t (lookup_in t d kind)) ≡ units_barred number at → Offset number at
      go (Ok u) p e = let z : ◌≡◌ {A = ℕ} 0 1 = cc in absurd (omega arith)
      go (Err f) p e = let k : number_of f.refusal ≡ number = cc in let j : f.at ≡ at = cc in rw (k, j) at (placed-bad p refl)
