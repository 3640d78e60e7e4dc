-- The numbers of a table's faults (document 01, "Numbers of refusal"), for any bytes: its header's are 1 to 3, with offset 0, its parts' 4 to 8.
use Rattle.fields.specs.Faults.{earlier}
use Rattle.std.specs.Prelude.{None, Option, Some}
use Rattle.std.specs.Prelude.{Ok, Err}
use Prim.Native.Nat.{ℕ, zero, suc, ◌+◌, ◌≤◌}
use mathlib.Core.Path.{◌≡◌, refl, ap}
use mathlib.Core.Bool.{Bool, true, false, cond}
use mathlib.Core.List.{List}
use native.Mathlib.Omega.{arith}
use lib.Dec.{leb, eqb}
use lib.ListN.{length}
use Rattle.fields.specs.declared.Refusal.{Refusal}
use Rattle.fields.specs.declared.Refusal.TheVariants.{TableLength, GlyphCount, Version, Outside}
use Rattle.fields.specs.Faults.{FirstFault}
use Rattle.fields.specs.Faults.{Clear, Bad}
use Rattle.fields.specs.Refusals.{number_of}
use Rattle.fields.specs.Field.{u16_at}
use Rattle.fields.specs.Faults.{◌then◌, rule, inside}
use Rattle.fields.specs.Walk.{walk}
use Rattle.lookup.specs.Find.{value_of}
use Rattle.lookup_targets.specs.declared.Kind.{Kind}
use Rattle.lookup_targets.specs.declared.Kind.TheVariants.{Clusters, Lists}
use Rattle.lookup_targets.specs.Values.{spot_of, spot_fault, target_fault, values_fault}
use Rattle.table.specs.Table.{present, header_fault, offsets_fault, machine_part, action_part, direction_fault, table_fault, machine_offset, width_offset, action_offset, width_lookup}
use Rattle.table_laws.specs.Order.{Only, clear, outside, own, OfTable, of_none, of-header, of_part}
use Rattle.table_laws.proofs.Faults.{clear-not-bad}
use Rattle.table_laws.proofs.Only.{lookup-only, cluster-only, machine_only, list-only}

-- ---- chains, rules, fields and walks

infixr 20 ◌and◌
◌and◌ : {f g : FirstFault} → OfTable f → OfTable g → OfTable (f then g)
unfolding earlier
of_none and q = q
(of-header r h) and q = of-header r h
(of_part r at l h) and q = of_part r at l h

either : {f g : FirstFault} (b : Bool) → OfTable f → OfTable g → OfTable (cond b f g)
either true p q = p
either false p q = q

-- a part's own number is 5 to 8
of-only : {r : Refusal} {f : FirstFault} → (4 ≤ number_of r) × (number_of r ≤ 8) → Only r f → OfTable f
of-only h clear = of_none
of-only h (outside at) = of_part Outside at (omega arith) (omega arith)
of-only {r} h (own at) = of_part r at h.0 h.1

outside-rule : (b : Bool) (at : ℕ) → OfTable (rule b Outside at)
unfolding rule
outside-rule true at = of_none
outside-rule false at = of_part Outside at (omega arith) (omega arith)

found : (t : List ℕ) (at width : ℕ) → OfTable (inside t at width)
unfolding inside
found t at width = outside-rule (leb (at + width) (length t)) at

walked : (one : ℕ → ℕ → FirstFault) (to next : ℕ → ℕ) → ((p least : ℕ) → OfTable (one p least)) → (n at least : ℕ) → OfTable (walk one to next n at least)
unfolding walk
walked one to next h zero at least = of_none
walked one to next h (suc n) at least = h at least and walked one to next h n (to at) (next at)

header-rule : (b : Bool) (r : Refusal) → number_of r ≤ 3 → OfTable (rule b r 0)
unfolding rule
header-rule true r h = of_none
header-rule false r h = of-header r h

-- ---- a table

module _ (t : List ℕ) (n : ℕ) where
  spotted : (kind : Kind) (s : Option ℕ) → OfTable (spot_fault t n kind s)
  spotted Clusters (Some p) = of-only (omega arith, omega arith) (cluster-only t p)
  spotted Lists (Some p) = of-only (omega arith, omega arith) (list-only t n p)
  spotted Clusters None = of_none
  spotted Lists None = of_none

  valued : (kind : Kind) (at base : ℕ) → OfTable (values_fault t n kind at base)
  unfolding values_fault target_fault
  valued kind at base =
      of-only (omega arith, omega arith) (lookup-only t n at)
      and walked (λ g _. target_fault t n kind at base g) (λ g. g + 1) (λ g. 0) (λ g least. spotted kind (spot_of kind base (value_of t n at g))) n 0 0

  machined : (offset : ℕ) → OfTable (machine_part t n offset)
  unfolding machine_part present
  machined offset = either (eqb offset 0) of_none (of-only (omega arith, omega arith) (machine_only t n (offset + 8)))

  acted : (offset : ℕ) → OfTable (action_part t n offset)
  unfolding action_part present
  acted offset = either (eqb offset 0) of_none (valued Lists offset offset)

  directed : (at : ℕ) → OfTable (direction_fault t n at)
  unfolding direction_fault present offsets_fault
  directed at =
      either (eqb at 0) of_none
      ((found t at 2 and found t (at + 2) 2 and found t (at + 4) 2)
      and machined (machine_offset t at) and valued Clusters (width_lookup at) (width_offset t at) and acted (action_offset t at))

  headed : OfTable (header_fault t n)
  unfolding header_fault
  headed =
      header-rule _ TableLength (omega arith)
      and header-rule _ TableLength (omega arith)
      and header-rule _ GlyphCount (omega arith)
      and header-rule _ GlyphCount (omega arith)
      and header-rule _ Version (omega arith)
      and header-rule _ Version (omega arith)

  pub of-table : OfTable (table_fault t n)
  unfolding table_fault
  of-table = headed and directed (u16_at t 6) and directed (u16_at t 8)

  -- A TABLE'S NUMBERS are 1 to 8
  pub table-number : {r : Refusal} {at : ℕ} → table_fault t n ≡ Bad r at → number_of r ≤ 8
  table-number {r} {at} e = go of-table e
    where
      named : FirstFault → ℕ
      named (Ok u) = 0
      named (Err f) = number_of f.refusal

      go : {f : FirstFault} → OfTable f → f ≡ Bad r at → number_of r ≤ 8
      go of_none q = absurd (clear-not-bad refl q)
      go (of-header s h) q = omega (arith, ap named q)
      go (of_part s p l h) q = omega (arith, ap named q)
