-- The numbers of a part's faults (document 01, "Numbers of refusal"), for any bytes: a lookup's fault is 4 or 5, a cluster's 4 or 6, a machine's 4 or 7 and an
-- action list's 4 or 8.
use Rattle.std.proofs.Common.{sym}
use Rattle.fields.proofs.Laws.{bad-refusal}
use Rattle.fields.specs.Faults.{earlier}
use Prim.Native.Nat.{ℕ, zero, suc, ◌+◌}
use mathlib.Core.Bool.{Bool, true, false, cond}
use mathlib.Core.List.{List}
use mathlib.Core.Logic.{◌⊎◌, inl, inr}
use mathlib.Core.Path.{◌≡◌, refl}
use lib.Dec.{leb, eqb, ltb}
use lib.ListN.{length}
use Rattle.fields.specs.declared.Refusal.{Refusal}
use Rattle.fields.specs.declared.Refusal.TheVariants.{Outside, BadLookup, BadCluster, BadMachine, BadActions}
use Rattle.fields.specs.Faults.{FirstFault}
use Rattle.fields.specs.Faults.{Bad}
use Rattle.fields.specs.Field.{u16_at}
use Rattle.fields.specs.Faults.{◌then◌, rule, inside}
use Rattle.fields.specs.Walk.{walk, each}
use Rattle.lookup.specs.Units.{range_fault, single_fault, unit_fault, unit_array_fault}
use Rattle.lookup.specs.Lookup.{counted_fault, segments_fault, trimmed_fault, format_fault, lookup_fault}
use Rattle.cluster.specs.Faults.{pair_class_fault, grow_fault, shrink_fault, flags_fault, pair_fault, cluster_fault}
use Rattle.machine.specs.Rows.{entry_fault, cell_fault, row_fault, raised_by, fault_from}
use Rattle.machine.specs.Machine as machine
use Rattle.machine.specs.Machine.{head_fault, class_table_fault, machine_fault}
use Rattle.actions.specs.Faults.{glyph_fault, added_fault, count_fault, type0_fault, type2_fault, type4_fault, type5_fault, data_fault, length_fault, action_fault, list_fault}
use Rattle.table_laws.specs.Order.{Only, clear, outside, own}
use Rattle.table_laws.proofs.Faults.{clear-not-bad}

-- such a fault, where there is one, has the number 4 or the part's own
pub only-bad : {r s : Refusal} {f : FirstFault} {at : ℕ} → Only r f → f ≡ Bad s at → (s ≡ Outside) ⊎ (s ≡ r)
only-bad clear e = absurd (clear-not-bad refl e)
only-bad (outside p) e = inl (sym (bad-refusal e))
only-bad (own p) e = inr (sym (bad-refusal e))

-- ---- chains, rules, fields and walks

infixr 20 ◌and◌
◌and◌ : {r : Refusal} {f g : FirstFault} → Only r f → Only r g → Only r (f then g)
unfolding earlier
clear and q = q
(outside at) and q = outside at
(own at) and q = own at

-- a rule of the part's own, and a field found inside
kept : {r : Refusal} (b : Bool) (at : ℕ) → Only r (rule b r at)
unfolding rule
kept true at = clear
kept false at = own at

outside-rule : {r : Refusal} (b : Bool) (at : ℕ) → Only r (rule b Outside at)
unfolding rule
outside-rule true at = clear
outside-rule false at = outside at

found : {r : Refusal} (t : List ℕ) (at width : ℕ) → Only r (inside t at width)
unfolding inside
found t at width = outside-rule (leb (at + width) (length t)) at

either : {r : Refusal} {f g : FirstFault} (b : Bool) → Only r f → Only r g → Only r (cond b f g)
either true p q = p
either false p q = q

module _ {r : Refusal} (one : ℕ → ℕ → FirstFault) (only : (p least : ℕ) → Only r (one p least)) (to next : ℕ → ℕ) where
  walked : (n at least : ℕ) → Only r (walk one to next n at least)
  unfolding walk
  walked zero at least = clear
  walked (suc n) at least = only at least and walked n (to at) (next at)

all : {r : Refusal} (one : ℕ → FirstFault) → ((p : ℕ) → Only r (one p)) → (to : ℕ → ℕ) (n at : ℕ) → Only r (each one to n at)
all one only to n at = walked (λ p _. one p) (λ p _. only p) to (λ p. 0) n at 0

module _ (t : List ℕ) where
  -- ---- a lookup

  unit-only : (format p least : ℕ) → Only BadLookup (unit_fault t format p least)
  unfolding unit_fault single_fault range_fault
  unit-only format p least =
      either (eqb format 6)
      (found t _ _ and kept _ _ and found t _ _)
      (found t _ _ and found t _ _ and kept _ _ and kept _ _ and found t _ _)

  array-only : (n p : ℕ) → Only BadLookup (each (λ q. inside t q 2) (λ q. q + 2) n p)
  array-only n p = all (λ q. inside t q 2) (λ q. found t q 2) (λ q. q + 2) n p

  counted-only : (format at : ℕ) → Only BadLookup (counted_fault t format at)
  unfolding counted_fault
  counted-only format at = found t _ _ and kept _ _ and found t _ _ and walked (unit_fault t format) (unit-only format) _ _ _ _ _

  segments-only : (n at : ℕ) → Only BadLookup (segments_fault t n at)
  unfolding segments_fault unit_array_fault
  segments-only n at = counted-only 4 at and all (unit_array_fault t n at) (λ p. array-only _ _) _ _ _

  trimmed-only : (n at : ℕ) → Only BadLookup (trimmed_fault t n at)
  unfolding trimmed_fault
  trimmed-only n at = found t _ _ and found t _ _ and array-only _ _

  pub lookup-only : (n at : ℕ) → Only BadLookup (lookup_fault t n at)
  unfolding lookup_fault format_fault
  lookup-only n at =
      found t _ _
      and either (eqb (u16_at t at) 0) (array-only _ _)
      (either (eqb (u16_at t at) 2) (counted-only 2 at)
      (either (eqb (u16_at t at) 4) (segments-only n at)
      (either (eqb (u16_at t at) 6) (counted-only 6 at)
      (either (eqb (u16_at t at) 8) (trimmed-only n at)
      (own at)))))

  -- ---- a cluster

  pair-only : (p least : ℕ) → Only BadCluster (pair_fault t p least)
  unfolding pair_fault pair_class_fault grow_fault shrink_fault flags_fault
  pair-only p least =
      (found t _ _ and kept _ _)
      and (found t _ _ and kept _ _)
      and (found t _ _ and kept _ _)
      and (found t _ _ and kept _ _)
      and (found t _ _ and kept _ _)
      and (found t _ _ and kept _ _)
      and (found t _ _ and kept _ _)

  pub cluster-only : (at : ℕ) → Only BadCluster (cluster_fault t at)
  unfolding cluster_fault
  cluster-only at = found t _ _ and kept _ _ and walked (pair_fault t) pair-only _ _ _ _ _

  -- ---- a machine

  class-only : (here p : ℕ) → Only BadMachine (machine.class_fault t here p)
  unfolding machine.class_fault
  class-only here p = found t _ _ and kept _ _

  cell-only : (here row class : ℕ) → Only BadMachine (cell_fault t here row class)
  unfolding cell_fault entry_fault
  cell-only here row class = found t _ _ and (found t _ _ and kept _ _ and kept _ _ and kept _ _ and found t _ _)

  rows-only : (here n row s : ℕ) → Only BadMachine (fault_from t here n row s)
  unfolding fault_from row_fault
  rows-only here zero row s = clear
  rows-only here (suc n) row s =
      either (ltb row s) (all (cell_fault t here row) (cell-only here row) _ _ _ and rows-only here n (row + 1) (raised_by t here row s)) clear

  pub machine_only : (n here : ℕ) → Only BadMachine (machine_fault t n here)
  unfolding machine_fault head_fault class_table_fault
  machine_only n here =
      (found t _ _ and kept _ _ and kept _ _ and found t _ _ and found t _ _ and found t _ _)
      and (found t _ _ and found t _ _ and all (machine.class_fault t here) (class-only here) _ _ _)
      and rows-only here 256 0 2

  -- ---- an action list

  glyph-only : (n at : ℕ) → Only BadActions (glyph_fault t n at)
  unfolding glyph_fault
  glyph-only n at = found t _ _ and kept _ _

  type0-only : (n at : ℕ) → Only BadActions (type0_fault t n at)
  unfolding type0_fault count_fault
  type0-only n at =
      found t _ _
      and found t _ _
      and found t _ _
      and (found t _ _ and kept _ _ and kept _ _ and kept _ _)
      and all (glyph_fault t n) (glyph-only n) _ _ _

  data-only : (n at ty : ℕ) → Only BadActions (data_fault t n at ty)
  unfolding data_fault type2_fault added_fault type4_fault type5_fault
  data-only n at ty =
      either (eqb ty 0) (type0-only n at)
      (either (eqb ty 1) (glyph-only n _)
      (either (eqb ty 2) (found t _ _ and (found t _ _ and kept _ _) and glyph-only n _)
      (either (eqb ty 3) clear
      (either (eqb ty 4) (found t _ _ and found t _ _ and found t _ _ and found t _ _)
      (found t _ _ and glyph-only n _)))))

  action-only : (n at : ℕ) → Only BadActions (action_fault t n at)
  unfolding action_fault length_fault
  action-only n at =
      found t _ _
      and kept _ _
      and found t _ _
      and kept _ _
      and (found t _ _ and kept _ _ and kept _ _)
      and data-only n at _

  pub list-only : (n at : ℕ) → Only BadActions (list_fault t n at)
  unfolding list_fault
  list-only n at = found t _ _ and kept _ _ and all (action_fault t n) (action-only n) _ _ _
