-- The outcomes of the definitions that go by cases, and one step of each recursion, in the form that a return or a turn of a loop asks for.
use Prim.Native.Nat.{ℕ, suc, ◌+◌, ◌-◌, ◌*◌, ◌≤◌, ◌<◌}
use mathlib.Core.List.{List}
use mathlib.Core.Path.{◌≡◌, refl}
use native.Mathlib.Omega.{arith}
use lib.ListN.{length}
use lib.Dec.{ltb}
use borrow.Author.Tests.{ne_eqb}
use Rattle.fields.specs.Faults.{Clear}
use Rattle.fields.specs.declared.Refusal.TheVariants.{BadActions}
use Rattle.fields.specs.Field.{u16_at, u32_at}
use Rattle.fields.specs.Faults.{◌then◌, rule, inside}
use Rattle.fields.proofs.Laws.{then-first, then-stop, then-clear, inside-holds, bad-inside}
use Rattle.actions.specs.Faults.{glyph_fault, added_fault, type0_fault, type4_fault, type5_fault, data_fault, action_fault}
use Rattle.actions.specs.Actions.{place_after, components_at}

-- ---- faults

module _ (t : List ℕ) (glyphs at g : ℕ) (r : g ≡ u16_at t at) where
  pub added_none : g ≡ 65535 → added_fault t glyphs at ≡ inside t at 2
  unfolding added_fault rule
  added_none e = simp (← r, e) (then-clear _)

  pub added-some : (g ≡ 65535 → ⊥) → added_fault t glyphs at ≡ (inside t at 2 then rule (ltb g glyphs) BadActions at)
  unfolding added_fault
  added-some n = simp (← r, ne_eqb g 65535 n)

pub glyph-inside : (t : List ℕ) (glyphs at : ℕ) → glyph_fault t glyphs at ≡ Clear → at + 2 ≤ length t
unfolding glyph_fault
glyph-inside t glyphs at e = inside-holds t at 2 (then-first _ _ e)

module _ (t : List ℕ) (glyphs at : ℕ) where
  -- a clear action begins inside the table, and one that begins past it is refused there
  pub action-begins : action_fault t glyphs at ≡ Clear → at + 2 ≤ length t
  unfolding action_fault
  action-begins e = inside-holds t at 2 (then-first _ _ e)

  -- the data of an action whose type is 0, is 4, or is past it
  pub data-0 : (k : ℕ) → k ≡ 0 → data_fault t glyphs at k ≡ type0_fault t glyphs at
  unfolding data_fault
  data-0 k e = simp e

  pub data-4 : (k : ℕ) → k ≡ 4 → data_fault t glyphs at k ≡ type4_fault t at
  unfolding data_fault
  data-4 k e = simp e

  pub data-5 : (k : ℕ) → (k ≡ 0 → ⊥) → (k ≡ 1 → ⊥) → (k ≡ 2 → ⊥) → (k ≡ 3 → ⊥) → (k ≡ 4 → ⊥) → data_fault t glyphs at k ≡ type5_fault t glyphs at
  unfolding data_fault
  data-5 k n0 n1 n2 n3 n4 = simp (ne_eqb k 0 n0, ne_eqb k 1 n1, ne_eqb k 2 n2, ne_eqb k 3 n3, ne_eqb k 4 n4)

-- where a field, a glyph or an action that is clear lies inside the table
pub ruleset ends = (inside-holds, glyph-inside, action-begins)

-- ---- places

module _ (t : List ℕ) where
  -- `i` of `n` steps are made, and the next leads from `at`
  pub after_next : (n i at k : ℕ) → i < n → k ≡ u32_at t (at + 4) → place_after t (n - i) at ≡ place_after t (n - (i + 1)) (at + k)
  unfolding place_after
  after_next n i at k h e = let r : n - i ≡ suc (n - (i + 1)) = omega arith in rw (r, e) refl

  pub after_none : (n i at : ℕ) → n ≤ i → place_after t (n - i) at ≡ at
  unfolding place_after
  after_none n i at h = let z : n - i ≡ 0 = omega arith in rw z refl

  -- the components of an action whose type was read as `k`, and their count as `n`
  pub components-none : (at k : ℕ) → k ≡ u16_at t (at + 2) → (k ≡ 0 → ⊥) → components_at t at ≡ record { from = 0; to = 0 }
  unfolding components_at
  components-none at k r h = simp (← r, ne_eqb k 0 h)

  pub components-some : (at k n : ℕ) → k ≡ u16_at t (at + 2) → n ≡ u16_at t (at + 18) → k ≡ 0
      → components_at t at ≡ record { from = at + 20; to = at + 20 + 2 * n }
  unfolding components_at
  components-some at k n r s h = simp (← r, h, s)
