-- Laws of the cursor.
use Rattle.std.specs.Prelude.{Option, Some}
use Prim.Native.Nat.{ℕ, zero, suc, ◌+◌, ◌-◌, ◌*◌, ◌≤◌, ◌<◌, ◌^◌}
use mathlib.Core.List.{List}
use mathlib.Core.Bool.{cond}
use mathlib.Core.Path.{◌≡◌, refl, sym, ◌∙◌, ap}
use native.Mathlib.Omega.{arith}
use lib.Dec.{eqb}
use lib.ListN.{length}
use Rattle.fields.specs.Faults.{Clear}
use Rattle.fields.specs.Field.{u16_at}
use Rattle.fields.proofs.Walk.{walk_none}
use Rattle.lookup.specs.declared.Cursor.{Cursor}
use Rattle.lookup.specs.Units.{unit_size, last_of, unit_fault}
use Rattle.lookup.specs.Lookup.{lookup_fault}
use Rattle.lookup.specs.Find.{units_value, unit_count, trimmed_value, value_from}
use Rattle.lookup.specs.Pass.{Serves}
use Rattle.lookup.proofs.Laws.{units-next}
use Rattle.lookup.proofs.Unique.{ends-below, unit-rules, unit-inside, units-rest, units-first, units-clear, trimmed-inside}

-- the units bear on a value through what they give
from-same : (t : List ℕ) (at glyph n p m q : ℕ) → units_value t (u16_at t at) at glyph n p ≡ units_value t (u16_at t at) at glyph m q
    → value_from t at glyph n p ≡ value_from t at glyph m q
unfolding value_from
from-same t at glyph n p m q e =
    ap
    (λ (u : Option ℕ).
    cond (eqb (u16_at t at) 0) (Some (u16_at t (at + 2 + 2 * glyph))) (cond (eqb (u16_at t at) 8) (trimmed_value t at glyph) u))
    e

module _ (t : List ℕ) (at : ℕ) where
  -- a pass begins at the first counted unit, as the code has them
  pub serves-begin : (glyphs p n : ℕ) → lookup_fault t glyphs at ≡ Clear → p ≡ at + 12 → n ≡ unit_count t at → p + 6 * n < 2 ^ 40
      → Serves t at 0 (record { at = p; left = n })
  serves-begin glyphs p n e q r h =
      record { same = λ g l. simp (q, r); rising = simp (q, r) (units-clear t at glyphs e); counted = omega arith; near = h; trimmed = trimmed-inside t at glyphs e }

  -- where no unit is left, what serves a glyph serves every later one
  pub serves-later : (glyph later : ℕ) {c : Cursor} → glyph ≤ later → c.left ≡ 0 → Serves t at glyph c → Serves t at later c
  serves-later glyph later {c} h z s =
      record {
        same = λ g l. s.same g (omega arith);
        rising = walk_none (unit_fault t (u16_at t at)) (λ q. q + unit_size (u16_at t at)) (λ q. last_of t q + 1) c.left c.at later (omega arith);
        counted = s.counted;
        near = s.near;
        trimmed = s.trimmed;
      }

  -- what is left after a unit serves the glyphs after it
  pub serves-past : (glyph p n q last : ℕ) → Serves t at glyph (record { at = p; left = n }) → 0 < n → last ≡ last_of t p
      → q ≡ p + unit_size (u16_at t at) → q + 6 * (n - 1) < 2 ^ 40 → Serves t at (last + 1) (record { at = q; left = n - 1 })
  serves-past glyph p n q last s h l e b =
      let rules = unit-rules t (u16_at t at) p glyph (units-first t (u16_at t at) n p glyph h s.rising) in
      record {
        same = λ g k.
            sym (from-same t at g n p (n - 1) q (units-next t (u16_at t at) at g n p q h (ends-below t (u16_at t at) g p (omega arith)) e))
            ∙ s.same g (omega (arith, rules.0, rules.1));
        rising = rw l (units-rest t (u16_at t at) n p glyph q h e s.rising);
        counted = omega (arith, s.counted);
        near = b;
        trimmed = s.trimmed;
      }

-- the next unit, if one is left, stands inside the table
pub serves-inside : (t : List ℕ) (at f : ℕ) {glyph : ℕ} {c : Cursor} → f ≡ u16_at t at → Serves t at glyph c → 0 < c.left
    → c.at + unit_size f ≤ length t
serves-inside t at f {glyph} {c} e s h =
    rw e (unit-inside t (u16_at t at) c.at glyph (units-first t (u16_at t at) c.left c.at glyph h s.rising))

pub some_left : (n : ℕ) → (n ≡ 0 → ⊥) → 0 < n
some_left zero h = absurd (h refl)
some_left (suc n) h = omega arith
