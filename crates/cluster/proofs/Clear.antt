-- What is seen at once to be without fault: fields that lie inside and keep their rules.
use Prim.Native.Nat.{ℕ, ◌+◌, ◌≤◌}
use mathlib.Core.List.{List}
use mathlib.Core.Path.{◌≡◌, ◌∙◌}
use native.Mathlib.Omega.{arith}
use lib.ListN.{length}
use borrow.Author.Tests.{le-leb}
use Rattle.fields.specs.Faults.{Clear}
use Rattle.fields.specs.declared.Refusal.TheVariants.{BadCluster}
use Rattle.fields.specs.Field.{u16_at, u32_at}
use Rattle.fields.proofs.Laws.{then-go, clear-inside, rule-clear}
use Rattle.units.specs.Fixed.{fixed_size}
use Rattle.units.specs.Flags.{priority_of}
use Rattle.meaning.specs.Limits.{em_limit}
use Rattle.cluster.specs.Faults.{pair_class, pair_class_fault, grow_fault, shrink_fault, flags_fault, pair_fault}

module _ (t : List ℕ) (at : ℕ) where
  class-clear : (least : ℕ) → at + 4 ≤ length t → least ≤ pair_class t at → pair_class_fault t at least ≡ Clear
  unfolding pair_class_fault
  class-clear least h l = then-go _ (clear-inside t at 4 h) ∙ rule-clear BadCluster at (le-leb _ _ l)

  -- `limit`, `size` and `priority` are the field as the code has read it
  pub grow-clear : (limit : ℕ) → at + 4 ≤ length t → limit ≡ u32_at t at → limit ≤ em_limit → grow_fault t at ≡ Clear
  unfolding grow_fault
  grow-clear limit h e l = then-go _ (clear-inside t at 4 h) ∙ rule-clear BadCluster at (le-leb _ _ (rw e at l))

  pub shrink-clear : (size : ℕ) → at + 4 ≤ length t → size ≡ fixed_size (u32_at t at) → size ≤ em_limit → shrink_fault t at ≡ Clear
  unfolding shrink_fault
  shrink-clear size h e l = then-go _ (clear-inside t at 4 h) ∙ rule-clear BadCluster at (le-leb _ _ (rw e at l))

  pub flags-clear : (priority : ℕ) → at + 2 ≤ length t → priority ≡ priority_of (u16_at t at) → priority ≤ 3 → flags_fault t at ≡ Clear
  unfolding flags_fault
  flags-clear priority h e l = then-go _ (clear-inside t at 2 h) ∙ rule-clear BadCluster at (le-leb _ _ (rw e at l))

  -- a pair: its class as it was read, its limits and its flags
  pub pair-clear : (least class : ℕ) → at + 24 ≤ length t → class ≡ pair_class t at → least ≤ class
      → (grow_fault t (at + 4) ≡ Clear) × (shrink_fault t (at + 4 + 4) ≡ Clear)
      → (grow_fault t (at + 12) ≡ Clear) × (shrink_fault t (at + 12 + 4) ≡ Clear)
      → (flags_fault t (at + 20) ≡ Clear) × (flags_fault t (at + 20 + 2) ≡ Clear)
      → pair_fault t at least ≡ Clear
  unfolding pair_fault
  pair-clear least class h e l before after flags =
      let p : at + 4 + 4 ≡ at + 8 = omega arith in
      let q : at + 12 + 4 ≡ at + 16 = omega arith in
      let r : at + 20 + 2 ≡ at + 22 = omega arith in
      then-go _ (class-clear least (omega arith) (rw e at l))
      ∙ then-go _ before.0
      ∙ then-go _ (rw p at before.1)
      ∙ then-go _ after.0
      ∙ then-go _ (rw q at after.1)
      ∙ then-go _ flags.0
      ∙ rw r at flags.1

pub ruleset clear_steps = (grow-clear, shrink-clear, flags-clear, pair-clear)
