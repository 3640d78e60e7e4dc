-- A direction by its parts as they are stored, and what a direction without fault gives each of them.
use Rattle.lookup_targets.specs.Values.{from_lookup}
use Rattle.std.specs.Prelude.{None, Option, Some}
use Prim.Native.Nat.{ℕ, zero, suc, ◌+◌, ◌<◌, ◌^◌}
use mathlib.Core.Path.{◌≡◌, refl, sym, ap, ap₂, ◌∙◌}
use mathlib.Core.Bool.{Bool, true, false, cond}
use mathlib.Core.List.{List, [], ◌∷◌, ◌++◌, append_assoc}
use native.Mathlib.Omega.{arith}
use native.Mathlib.Decide.{ℕ_discrete}
use lib.ListN.{length, length-append, replicate}
use lib.Dec.{eqb}
use borrow.Author.Tests.{eq-eqb, ne_eqb}
use Rattle.fields.specs.Faults.{Clear}
use Rattle.fields.specs.Field.{Bytes}
use Rattle.fields.proofs.Laws.{then-first}
use Rattle.encoding.specs.Codes.{All}
use Rattle.encoding.specs.Upto.{from, upto}
use Rattle.meaning.specs.Meaning.{Side, empty_side}
use Rattle.meaning.specs.Sheet.{cluster_section, cluster_run_section, list_section, list_run_section, write_side}
use Rattle.lookup_targets.specs.declared.Kind.{Kind}
use Rattle.lookup_targets.specs.declared.Kind.TheVariants.{Clusters, Lists}
use Rattle.lookup_targets.specs.Values.{spot_of, cluster_here, list_here, cluster_of, list_of, values_fault, source_fault, NearSource}
use Rattle.lookup.specs.Find.{value_of}
use Rattle.types.specs.declared.Direction.{Direction}
use Rattle.table.specs.Table.{direction_at, width_offset, action_offset, width_lookup, machine_place, source_there, source_at, header_fault, direction_fault, table_fault}
use Rattle.table.specs.Means.{machine_of, lists_of, side_at, direction_of}
use Rattle.table.proofs.Laws.{place_none, place-some, source-none, source-some, source_clear, direction-clear, short, few-glyphs}
use Rattle.write_item.specs.Items.{item_at, item-discrete, item_code}
use Rattle.lookup_targets.specs.declared.Source.{Source}
use Rattle.write_glyphs.specs.Places.{item_here, items_from, SoundSource}
use Rattle.write_pool.specs.Pool.{pool_bytes, Short, Numberable}
use Rattle.write_machine.specs.Parts.{machine_parts, machine_bytes}
use Rattle.write_direction.specs.Side.{side_bytes, ClearSide}
use Rattle.write_direction.proofs.Short.{looked-short, absent-short}

-- ---- items of a lookup

from-same : {A : Type 0} (f g : ℕ → A) → ((x : ℕ) → f x ≡ g x) → (n i : ℕ) → from f n i ≡ from g n i
unfolding from
from-same f g e zero i = refl
from-same f g e (suc n) i = ap₂ (λ a l. a ∷ l) (e i) (from-same f g e n (suc i))

cluster-here : (t : List ℕ) (spot : Option ℕ) → item_here Clusters t spot ≡ cluster_here t spot
unfolding item_at
cluster-here t (Some p) = refl
cluster-here t None = refl

list-here : (t : List ℕ) (spot : Option ℕ) → item_here Lists t spot ≡ list_here t spot
unfolding item_at
list-here t (Some p) = refl
list-here t None = refl

module _ (t : List ℕ) (n : ℕ) where
  clusters-are : (at base : ℕ) → upto (cluster_of t n at base) n ≡ items_from Clusters t n (from_lookup at base)
  unfolding items_from cluster_of
  clusters-are at base =
      sym (from-same (λ (g : ℕ). item_here Clusters t (spot_of Clusters base (value_of t n at g))) (λ (g : ℕ). cluster_here t (spot_of Clusters base (value_of t n at g)))
      (λ g. cluster-here t (spot_of Clusters base (value_of t n at g))) n 0)

  lists-are : (at base : ℕ) → upto (list_of t n at base) n ≡ items_from Lists t n (from_lookup at base)
  unfolding items_from list_of
  lists-are at base =
      sym (from-same (λ (g : ℕ). item_here Lists t (spot_of Lists base (value_of t n at g))) (λ (g : ℕ). list_here t (spot_of Lists base (value_of t n at g)))
      (λ g. list-here t (spot_of Lists base (value_of t n at g))) n 0)

  absent-clusters : replicate n [] ≡ items_from Clusters t n None
  unfolding items_from
  absent-clusters = refl

  absent-lists : replicate n [] ≡ items_from Lists t n None
  unfolding items_from
  absent-lists = refl

  module _ (at : ℕ) where
    -- ---- the direction by its sources

    list-field : lists_of t n (action_offset t at) ≡ items_from Lists t n (source_there t at Lists)
    unfolding lists_of
    list-field = go (eqb off 0)
      where
        off : ℕ
        off = action_offset t at

        go : (b : Bool) → cond b (replicate n []) (upto (list_of t n off off) n) ≡ items_from Lists t n (cond b None (from_lookup off off))
        go true = absent-lists
        go false = lists-are off off

    unfoldable pub by-sources : Side
    by-sources =
        record {
          machine = machine_of t n (machine_place t at);
          clusters = items_from Clusters t n (source_at t at Clusters);
          lists = items_from Lists t n (source_at t at Lists);
        }

    pub direction-is : direction_of t n at ≡ by-sources
    unfolding direction_of by-sources side_at empty_side machine_of
    direction-is = go (ℕ_discrete at 0)
      where
        go : Dec (at ≡ 0) → cond (eqb at 0) (empty_side n) (side_at t n at) ≡ by-sources
        go (yes z) =
            simp (eq-eqb at 0 z)
            (λ i. record {
              machine = ap (machine_of t n) (sym (place_none t at z)) i;
              clusters = (absent-clusters ∙ ap (items_from Clusters t n) (sym (source-none t at Clusters z))) i;
              lists = (absent-lists ∙ ap (items_from Lists t n) (sym (source-none t at Lists z))) i;
            })
        go (no z) =
            simp (ne_eqb at 0 z)
            (λ i. record {
              machine = ap (machine_of t n) (sym (place-some t at z)) i;
              clusters = (clusters-are (width_lookup at) (width_offset t at) ∙ ap (items_from Clusters t n) (sym (source-some t at Clusters z))) i;
              lists = (list-field ∙ ap (items_from Lists t n) (sym (source-some t at Lists z))) i;
            })

    -- machine, clusters, lists
    pub side-parts : side_bytes t n at
        ≡ machine_bytes t n (machine_place t at) ++ (pool_bytes Clusters t n (source_at t at Clusters) ++ pool_bytes Lists t n (source_at t at Lists))
    unfolding side_bytes write_side machine_bytes machine_parts pool_bytes by-sources item-discrete item_code
    side-parts =
        let m = machine_parts (machine_of t n (machine_place t at)) in
        let cs = items_from Clusters t n (source_at t at Clusters) in
        let ls = items_from Lists t n (source_at t at Lists) in
        ap write_side direction-is
        ∙ append_assoc ((m ++ cluster_section cs) ++ cluster_run_section cs) (list_section ls) (list_run_section ls)
        ∙ ap (λ (l : List ℕ). l ++ (list_section ls ++ list_run_section ls)) (append_assoc m (cluster_section cs) (cluster_run_section cs))
        ∙ append_assoc m (cluster_section cs ++ cluster_run_section cs) (list_section ls ++ list_run_section ls)

    pub side-length : length (side_bytes t n at)
        ≡ length (machine_bytes t n (machine_place t at)) + length (pool_bytes Clusters t n (source_at t at Clusters)) + length (pool_bytes Lists t n (source_at t at Lists))
    side-length =
        omega (
          arith,
          ap length side-parts,
          length-append (machine_bytes t n (machine_place t at)) (pool_bytes Clusters t n (source_at t at Clusters) ++ pool_bytes Lists t n (source_at t at Lists)),
          length-append (pool_bytes Clusters t n (source_at t at Clusters)) (pool_bytes Lists t n (source_at t at Lists)),
        )

  -- ---- a source without fault

  module _ (kind : Kind) where
    pub source_sound : (s : Option Source) → NearSource s → source_fault t n kind s ≡ Clear → SoundSource t n s
    unfolding values_fault
    source_sound (Some s) near e = (omega (arith, near.0), near.1, then-first _ _ e)
    source_sound None near e = tt

    source-short : (s : Option Source) → Bytes t → source_fault t n kind s ≡ Clear → All (Short kind) (items_from kind t n s)
    source-short (Some s) w e = looked-short t n kind s.at s.base w e
    source-short None w e = absent-short t n kind

-- what the items of a kind need, from what the direction has
pub pool-ready : (t : List ℕ) (n at : ℕ) → ClearSide t n at → Bytes t → (kind : Kind) (source : Option Source) → (source ≡ source_at t at kind) × NearSource source → Numberable kind t n source
pool-ready t n at r w kind source e =
    let clear = ap (source_fault t n kind) e.0 ∙ source_clear t at n r.clear kind in
    record { bytes = r.bytes; few = r.few; sound = source_sound t n kind source e.1 clear; short = source-short t n kind source w clear }

-- a direction of an accepted table
pub side-clear : (t : List ℕ) (n : ℕ) → table_fault t n ≡ Clear → (d : Direction) (at : ℕ) → at < 2 ^ 16 → at ≡ direction_at t d → ClearSide t n at
unfolding table_fault
side-clear t n e d at h q =
    let header : header_fault t n ≡ Clear = then-first _ _ e in
    record { bytes = short t n header; few = omega (arith, few-glyphs t n header); near = h; clear = ap (direction_fault t n) q ∙ direction-clear t n e d }
