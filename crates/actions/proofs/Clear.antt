-- What is seen at once to be without fault: fields that lie inside and keep their rules.
use Prim.Native.Nat.{ℕ, ◌+◌, ◌*◌, ◌%◌, ◌≤◌, ◌<◌}
use mathlib.Core.List.{List}
use mathlib.Core.Path.{◌≡◌, ◌∙◌}
use native.Mathlib.Omega.{arith}
use lib.ListN.{length}
use borrow.Author.Tests.{le-leb, lt-ltb, eq-eqb}
use Rattle.fields.specs.Faults.{Clear}
use Rattle.fields.specs.declared.Refusal.TheVariants.{BadActions}
use Rattle.fields.specs.Field.{u16_at, u32_at}
use Rattle.fields.proofs.Laws.{then-go, clear-inside, rule-clear}
use Rattle.actions.specs.Faults.{glyph_fault, added_fault, count_fault, glyphs_fault, type0_fault, type2_fault, type4_fault, type5_fault, data_fault, data_size, length_fault, action_fault}
use Rattle.actions.proofs.Steps.{added_none, added-some, glyph-inside}

-- a glyph, and an added glyph, as it was read
module _ (t : List ℕ) (glyphs at glyph : ℕ) (h : at + 2 ≤ length t) (e : glyph ≡ u16_at t at) where
  pub glyph-clear : glyph < glyphs → glyph_fault t glyphs at ≡ Clear
  unfolding glyph_fault
  glyph-clear l = then-go _ (clear-inside t at 2 h) ∙ rule-clear BadActions at (lt-ltb _ _ (rw e at l))

  pub no-added-clear : glyph ≡ 65535 → added_fault t glyphs at ≡ Clear
  no-added-clear n = added_none t glyphs at glyph e n ∙ clear-inside t at 2 h

  pub added-clear : (glyph ≡ 65535 → ⊥) → glyph < glyphs → added_fault t glyphs at ≡ Clear
  added-clear n l = added-some t glyphs at glyph e n ∙ then-go _ (clear-inside t at 2 h) ∙ rule-clear BadActions at (lt-ltb _ _ l)

-- the data of each type
module _ (t : List ℕ) (glyphs at : ℕ) where
  -- `n` and `size` are the count and the length as they were read
  pub type0-clear : (n size : ℕ) → at + 20 ≤ length t → n ≡ u16_at t (at + 18) → size ≡ u32_at t (at + 4) → 1 ≤ n → n ≤ 32 → 20 + 2 * n ≤ size
      → glyphs_fault t glyphs n (at + 20) ≡ Clear → type0_fault t glyphs at ≡ Clear
  unfolding type0_fault count_fault
  type0-clear n size h e f low high fit listed =
      then-go _ (clear-inside t (at + 8) 4 (omega arith))
      ∙ then-go _ (clear-inside t (at + 12) 4 (omega arith))
      ∙ then-go _ (clear-inside t (at + 16) 2 (omega arith))
      ∙ then-go _
      (then-go _ (clear-inside t (at + 18) 2 (omega arith))
      ∙ then-go _ (rule-clear BadActions (at + 18) (le-leb _ _ (rw e at low)))
      ∙ then-go _ (rule-clear BadActions (at + 18) (le-leb _ _ (rw e at high)))
      ∙ rule-clear BadActions (at + 18) (le-leb _ _ (rw (e, f) at fit)))
      ∙ rw e at listed

  pub type2-clear : added_fault t glyphs (at + 12) ≡ Clear → glyph_fault t glyphs (at + 14) ≡ Clear → type2_fault t glyphs at ≡ Clear
  unfolding type2_fault
  type2-clear added substitute =
      then-go _ (clear-inside t (at + 8) 4 (omega (arith, glyph-inside t glyphs (at + 14) substitute))) ∙ then-go _ added ∙ substitute

  pub type4-clear : at + 24 ≤ length t → type4_fault t at ≡ Clear
  unfolding type4_fault
  type4-clear h =
      then-go _ (clear-inside t (at + 8) 4 (omega arith))
      ∙ then-go _ (clear-inside t (at + 12) 4 (omega arith))
      ∙ then-go _ (clear-inside t (at + 16) 4 (omega arith))
      ∙ clear-inside t (at + 20) 4 (omega arith)

  pub type5-clear : glyph_fault t glyphs (at + 10) ≡ Clear → type5_fault t glyphs at ≡ Clear
  unfolding type5_fault
  type5-clear glyph = then-go _ (clear-inside t (at + 8) 2 (omega (arith, glyph-inside t glyphs (at + 10) glyph))) ∙ glyph

  -- an action: its fields as they were read; a length that leads to the same place of four is a multiple of four
  pub action-clear : (class ty size : ℕ) → at + 8 ≤ length t → class ≡ u16_at t at → ty ≡ u16_at t (at + 2) → size ≡ u32_at t (at + 4)
      → class ≤ 127 → ty ≤ 5 → 8 + data_size ty ≤ size → (at + size) % 4 ≡ at % 4 → data_fault t glyphs at ty ≡ Clear
      → action_fault t glyphs at ≡ Clear
  unfolding action_fault length_fault
  action-clear class ty size h e f g low few enough whole inner =
      let four : u32_at t (at + 4) % 4 ≡ 0 = omega arith in
      then-go _ (clear-inside t at 2 (omega arith))
      ∙ then-go _ (rule-clear BadActions at (le-leb _ _ (rw e at low)))
      ∙ then-go _ (clear-inside t (at + 2) 2 (omega arith))
      ∙ then-go _ (rule-clear BadActions (at + 2) (le-leb _ _ (rw f at few)))
      ∙ then-go _
      (then-go _ (clear-inside t (at + 4) 4 (omega arith))
      ∙ then-go _ (rule-clear BadActions (at + 4) (eq-eqb _ _ four))
      ∙ rule-clear BadActions (at + 4) (le-leb _ _ (rw (f, g) at enough)))
      ∙ rw f at inner
