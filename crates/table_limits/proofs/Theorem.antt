-- The table at every upper limit is accepted, with every glyph count from 1 to 65,535; it counts what it is said to count.
use Prim.Native.Nat.{ℕ, ◌+◌, ◌≤◌, ◌<◌}
use mathlib.Core.Path.{◌≡◌, refl, ap, ◌∙◌}
use mathlib.Core.Bool.{Bool, true, false, cond}
use mathlib.Core.List.{List, ◌++◌}
use native.Mathlib.Omega.{arith}
use lib.Dec.{eqb}
use lib.ListN.{length, length-append}
use Rattle.fields.specs.Faults.{FirstFault}
use Rattle.fields.specs.Faults.{Clear}
use Rattle.fields.specs.Field.{u16_at, u32_at}
use Rattle.machine.specs.Machine.{machine_fault}
use Rattle.lookup_targets.specs.declared.Kind.TheVariants.{Clusters, Lists}
use Rattle.lookup_targets.specs.Values.{values_fault}
use Rattle.table.specs.Table.{present, offsets_fault, machine_part, action_part, direction_fault, Accepted}
use Rattle.table_laws.specs.Order.{GoodHeader}
use Rattle.table_laws.proofs.Faults.{good-header, no-fault}
use Rattle.table_limits.specs.Full.{zeros, full_cluster, full_list, wide_machine, tall_machine, lookup_of, header, offsets, full_table, AtLimits}
use Rattle.table_limits.proofs.Tails.{from_list, from-actions, from-tall, from-wide, from-cluster, from-vertical, from-horizontal}
use Rattle.table_limits.proofs.Stands.{Stands, itself, front, back, found, u16-is, u32-is, zeros-length, ◌so◌}
use Rattle.table_limits.proofs.Cluster.{cluster-length, cluster-count, cluster-clear}
use Rattle.table_limits.proofs.Actions.{list_length, list_count, list-clear, list-components, list-last}
use Rattle.table_limits.proofs.Wide.{wide-length, wide-count, wide-clear}
use Rattle.table_limits.proofs.Tall.{tall-length, tall-rows, tall-clear}
use Rattle.table_limits.proofs.Lookup.{lookup-length, closing-is, values-clear}

-- ---- what stands where

small-lengths : (length header ≡ 10) × (length (offsets 3138) ≡ 6) × (length (offsets 3673) ≡ 6)
unfolding header offsets
small-lengths = (refl, refl, refl)

pub record Parts (t : List ℕ) : Type 0 where
  pub head : Stands t 0 header
  pub horizontal : Stands t 10 (offsets 3138)
  pub widths : Stands t 16 (lookup_of 0)
  pub vertical : Stands t 36 (offsets 3673)
  pub vertical-widths : Stands t 42 (lookup_of 0)
  pub cluster : Stands t 62 full_cluster
  pub wide : Stands t 3146 wide_machine
  pub tall : Stands t 3681 tall_machine
  pub actions : Stands t 4725 (lookup_of 20)
  pub list : Stands t 4745 full_list
  pub long : length t ≡ 32768

full-length : length full_table ≡ 32768
unfolding full_table
full-length =
    let a = length-append header from-horizontal in
    let b = length-append (offsets 3138) (lookup_of 0 ++ from-vertical) in
    let c = length-append (lookup_of 0) from-vertical in
    let d = length-append (offsets 3673) (lookup_of 0 ++ from-cluster) in
    let e = length-append (lookup_of 0) from-cluster in
    let f = length-append full_cluster from-wide in
    let g = length-append (zeros 8) (wide_machine ++ from-tall) in
    let h = length-append wide_machine from-tall in
    let i = length-append (zeros 8) (tall_machine ++ from-actions) in
    let j = length-append tall_machine from-actions in
    let k = length-append (lookup_of 20) from_list in
    let l = length-append full_list (zeros 27179) in
    omega (arith, small-lengths, lookup-length 0, lookup-length 20, cluster-length, zeros-length 8, wide-length, tall-length, list_length, zeros-length 27179)

pub full-parts : Parts full_table
unfolding full_table
full-parts =
    let s0 = itself full_table in
    let s1 = back header from-horizontal s0 10 10 small-lengths.0 refl in
    let s2 = back (offsets 3138) (lookup_of 0 ++ from-vertical) s1 6 16 small-lengths.1 refl in
    let s3 = back (lookup_of 0) from-vertical s2 20 36 (lookup-length 0) refl in
    let s4 = back (offsets 3673) (lookup_of 0 ++ from-cluster) s3 6 42 small-lengths.2 refl in
    let s5 = back (lookup_of 0) from-cluster s4 20 62 (lookup-length 0) refl in
    let s6 = back full_cluster from-wide s5 3076 3138 cluster-length refl in
    let s7 = back (zeros 8) (wide_machine ++ from-tall) s6 8 3146 (zeros-length 8) refl in
    let s8 = back wide_machine from-tall s7 527 3673 wide-length refl in
    let s9 = back (zeros 8) (tall_machine ++ from-actions) s8 8 3681 (zeros-length 8) refl in
    let s10 = back tall_machine from-actions s9 1044 4725 tall-length refl in
    let s11 = back (lookup_of 20) from_list s10 20 4745 (lookup-length 20) refl in
    record {
      head = front header from-horizontal s0;
      horizontal = front (offsets 3138) (lookup_of 0 ++ from-vertical) s1;
      widths = front (lookup_of 0) from-vertical s2;
      vertical = front (offsets 3673) (lookup_of 0 ++ from-cluster) s3;
      vertical-widths = front (lookup_of 0) from-cluster s4;
      cluster = front full_cluster from-wide s5;
      wide = front wide_machine from-tall s7;
      tall = front tall_machine from-actions s9;
      actions = front (lookup_of 20) from_list s10;
      list = front full_list (zeros 27179) s11;
      long = full-length;
    }

-- ---- a direction

header-fields : (u32_at header 0 ≡ 0x00010000) × (u16_at header 4 ≡ 0) × (u16_at header 6 ≡ 10) × (u16_at header 8 ≡ 36)
unfolding header u16_at u32_at
header-fields = (refl, refl, refl, refl)

offset-fields : (m : ℕ) → (length (offsets m) ≡ 6) × (u16_at (offsets m) 2 ≡ 62) × (u16_at (offsets m) 4 ≡ 4725)
unfolding offsets u16_at
offset-fields m = (refl, refl, refl)

offset-first : (m : ℕ) → m < 65536 → u16_at (offsets m) 0 ≡ m
unfolding offsets u16_at
offset-first m h = omega arith

present-clear : (at : ℕ) {f : FirstFault} → f ≡ Clear → present at f ≡ Clear
unfolding present
present-clear at {f} e = go (eqb at 0)
  where
    go : (b : Bool) → cond b Clear f ≡ Clear
    go true = refl
    go false = e

module _ {t : List ℕ} (parts : Parts t) (n : ℕ) (some : 1 ≤ n) (few : n ≤ 65535) where
  action-part : action_part t n 4725 ≡ Clear
  unfolding action_part
  action-part = present-clear 4725 (values-clear t n 4725 20 parts.actions Lists 4725 few (omega arith) (list-clear t n some 4745 parts.list))

  direction-clear : (at m : ℕ) → m < 65536 → Stands t at (offsets m) → Stands t (at + 6) (lookup_of 0) → machine_fault t n (m + 8) ≡ Clear → direction_fault t n at ≡ Clear
  unfolding direction_fault offsets_fault machine_part
  direction-clear at m h s w machine =
      let k = offset-fields m in
      let e0 = u16-is s at 0 (omega arith) (omega arith) ∙ offset-first m h in
      let e2 = u16-is s (at + 2) 2 refl (omega arith) ∙ k.1 in
      let e4 = u16-is s (at + 4) 4 refl (omega arith) ∙ k.2 in
      present-clear at
      ((found s at 0 (omega arith) 2 (omega arith) so found s (at + 2) 2 refl 2 (omega arith) so found s (at + 4) 4 refl 2 (omega arith))
      so (ap (λ (x : ℕ). present x (machine_fault t n (x + 8))) e0 ∙ present-clear m machine)
      so (ap (values_fault t n Clusters (at + 6)) e2
      ∙ values-clear t n (at + 6) 0 w Clusters 62 few (omega arith) (cluster-clear 62 parts.cluster))
      so (ap (action_part t n) e4 ∙ action-part))

  good : GoodHeader t n
  good =
      let k : length header ≡ 10 = small-lengths.0 in
      let e = parts.long in
      record {
        long = omega arith;
        short = omega arith;
        some = some;
        few = few;
        version = u32-is parts.head 0 0 refl (omega arith) ∙ header-fields.0;
        format = u16-is parts.head 4 4 refl (omega arith) ∙ header-fields.1;
      }

  horizontal-clear : direction_fault t n (u16_at t 6) ≡ Clear
  horizontal-clear =
      let k : length header ≡ 10 = small-lengths.0 in
      ap (direction_fault t n) (u16-is parts.head 6 6 refl (omega arith) ∙ header-fields.2)
      ∙ direction-clear 10 3138 (omega arith) parts.horizontal parts.widths (wide-clear 3146 parts.wide n)

  vertical-clear : direction_fault t n (u16_at t 8) ≡ Clear
  vertical-clear =
      let k : length header ≡ 10 = small-lengths.0 in
      ap (direction_fault t n) (u16-is parts.head 8 8 refl (omega arith) ∙ header-fields.3)
      ∙ direction-clear 36 3673 (omega arith) parts.vertical parts.vertical-widths (tall-clear 3681 parts.tall n)

  parts-accepted : Accepted t n
  parts-accepted = (no-fault t n).1 ((good-header t n).1 good, (horizontal-clear, (vertical-clear, tt)))

-- ---- the theorems

-- it is accepted with every N from 1 to 65,535
pub full-accepted : (n : ℕ) → 1 ≤ n → n ≤ 65535 → Accepted full_table n
full-accepted n some few = parts-accepted full-parts n some few

-- and it stands at the limits
pub full-limits : AtLimits full_table
full-limits =
    let p = full-parts in
    record {
      long = full-length;
      pairs = cluster-count 62 p.cluster;
      actions = list_count full_table 1 (omega arith) 4745 p.list;
      components = list-components full_table 1 (omega arith) 4745 p.list;
      past = omega (arith, full-length, list-last full_table 1 (omega arith) 4745 p.list);
      classes = wide-count 3146 p.wide;
      rows = tall-rows 3681 p.tall;
      closing = closing-is full_table 1 16 0 p.widths;
    }
