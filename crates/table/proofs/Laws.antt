-- Laws of a table's faults, for the proofs of the functions and for callers.
use Rattle.lookup_targets.specs.Values.{from_lookup}
use Rattle.std.specs.Prelude.{None}
use Prim.Native.Nat.{ℕ, ◌≤◌}
use mathlib.Core.Path.{◌≡◌, refl, sym, ap, ◌∙◌}
use mathlib.Core.Bool.{Bool, true, false, cond}
use mathlib.Core.List.{List}
use native.Mathlib.Decide.{ℕ_discrete}
use lib.Dec.{eqb}
use lib.ListN.{length}
use borrow.Author.Tests.{eq-eqb, ne_eqb, leb-true}
use Rattle.fields.specs.Faults.{FirstFault}
use Rattle.fields.specs.Faults.{Clear}
use Rattle.fields.specs.declared.Refusal.TheVariants.{TableLength, GlyphCount}
use Rattle.fields.proofs.Laws.{then-first, then-second, rule-holds}
use Rattle.types.specs.declared.Direction.{Direction}
use Rattle.types.specs.declared.Direction.TheVariants.{Horizontal, Vertical}
use Rattle.lookup_targets.specs.declared.Kind.{Kind}
use Rattle.lookup_targets.specs.declared.Kind.TheVariants.{Clusters, Lists}
use Rattle.lookup_targets.specs.Values.{values_fault, source_fault}
use Rattle.table.specs.Table.{direction_at, machine_offset, action_offset, machine_place, source_there, source_at, present, header_fault, machine_part, action_part, direction_fault, table_fault}

-- a part that is absent, and one that is there
pub present-none : (at : ℕ) (f : FirstFault) → at ≡ 0 → present at f ≡ Clear
unfolding present
present-none at f e = simp (eq-eqb at 0 e)

pub present-some : (at : ℕ) (f : FirstFault) → (at ≡ 0 → ⊥) → present at f ≡ f
unfolding present
present-some at f n = simp (ne_eqb at 0 n)

-- ---- where a direction's parts stand

module _ (t : List ℕ) (at : ℕ) where
  pub place_none : at ≡ 0 → machine_place t at ≡ 0
  unfolding machine_place
  place_none e = simp (eq-eqb at 0 e)

  pub place-some : (at ≡ 0 → ⊥) → machine_place t at ≡ machine_offset t at
  unfolding machine_place
  place-some e = simp (ne_eqb at 0 e)

  pub source-none : (kind : Kind) → at ≡ 0 → source_at t at kind ≡ None
  unfolding source_at
  source-none kind e = simp (eq-eqb at 0 e)

  pub source-some : (kind : Kind) → (at ≡ 0 → ⊥) → source_at t at kind ≡ source_there t at kind
  unfolding source_at
  source-some kind e = simp (ne_eqb at 0 e)

  module _ (n : ℕ) where
    -- the action part of a direction is that of its lists
    pub lists-part : source_fault t n Lists (source_there t at Lists) ≡ action_part t n (action_offset t at)
    unfolding action_part present
    lists-part = go (eqb off 0)
      where
        off : ℕ
        off = action_offset t at

        go : (b : Bool) → source_fault t n Lists (cond b None (from_lookup off off)) ≡ cond b Clear (values_fault t n Lists off off)
        go true = refl
        go false = refl

    -- ---- the parts of a direction without fault

    module _ (e : direction_fault t n at ≡ Clear) where
      pub machine-clear : machine_part t n (machine_place t at) ≡ Clear
      unfolding direction_fault machine_part
      machine-clear = go (ℕ_discrete at 0)
        where
          go : Dec (at ≡ 0) → machine_part t n (machine_place t at) ≡ Clear
          go (yes z) = present-none (machine_place t at) _ (place_none z)
          go (no z) = ap (machine_part t n) (place-some z) ∙ then-first _ _ (then-second _ _ (sym (present-some at _ z) ∙ e))

      pub source_clear : (kind : Kind) → source_fault t n kind (source_at t at kind) ≡ Clear
      unfolding direction_fault
      source_clear kind = go kind (ℕ_discrete at 0)
        where
          go : (k : Kind) → Dec (at ≡ 0) → source_fault t n k (source_at t at k) ≡ Clear
          go k (yes z) = ap (source_fault t n k) (source-none k z)
          go Clusters (no z) =
              ap (source_fault t n Clusters) (source-some Clusters z) ∙ then-first _ _ (then-second _ _ (then-second _ _ (sym (present-some at _ z) ∙ e)))
          go Lists (no z) =
              ap (source_fault t n Lists) (source-some Lists z) ∙ lists-part ∙ then-second _ _ (then-second _ _ (then-second _ _ (sym (present-some at _ z) ∙ e)))

-- each direction of a table without fault is without fault
pub direction-clear : (t : List ℕ) (n : ℕ) → table_fault t n ≡ Clear → (d : Direction) → direction_fault t n (direction_at t d) ≡ Clear
unfolding table_fault
direction-clear t n e Horizontal = then-first _ _ (then-second _ _ e)
direction-clear t n e Vertical = then-second _ _ (then-second _ _ e)

-- ---- a clear header: the glyph count is 1 to 65,535, the length 10 to 32,768
module _ (t : List ℕ) (n : ℕ) (e : header_fault t n ≡ Clear) where
  pub long : 10 ≤ length t
  unfolding header_fault
  long = leb-true _ _ (rule-holds _ TableLength 0 (then-first _ _ e))

  pub short : length t ≤ 32768
  unfolding header_fault
  short = leb-true _ _ (rule-holds _ TableLength 0 (then-first _ _ (then-second _ _ e)))

  pub some-glyph : 1 ≤ n
  unfolding header_fault
  some-glyph = leb-true _ _ (rule-holds _ GlyphCount 0 (then-first _ _ (then-second _ _ (then-second _ _ e))))

  pub few-glyphs : n ≤ 65535
  unfolding header_fault
  few-glyphs = leb-true _ _ (rule-holds _ GlyphCount 0 (then-first _ _ (then-second _ _ (then-second _ _ (then-second _ _ e)))))
