-- The meaning of an accepted table keeps the limits, so that what is written for it is a sheet.
use Rattle.std.specs.Prelude.{None, Option, Some}
use Prim.Native.Nat.{ℕ, ◌+◌, ◌*◌, ◌<◌}
use mathlib.Core.Path.{◌≡◌}
use mathlib.Core.Bool.{Bool, true, false, cond}
use mathlib.Core.Option.{none, some}
use mathlib.Core.List.{List, []}
use native.Mathlib.Omega.{arith}
use lib.Dec.{eqb}
use lib.ListN.{length, replicate, length-replicate}
use Rattle.fields.specs.Faults.{Clear}
use Rattle.fields.specs.Field.{u16_at, Bytes}
use Rattle.fields.specs.Faults.{◌then◌}
use Rattle.fields.proofs.Walk.{walk-each}
use Rattle.fields.proofs.Laws.{then-first, then-second}
use Rattle.encoding.specs.Codes.{All}
use Rattle.encoding.specs.Upto.{upto}
use Rattle.encoding.proofs.ListLaws.{all_replicate}
use Rattle.encoding.proofs.UptoLaws.{length_from, all-upto}
use Rattle.meaning.specs.Limits.{OkMaybe, OkCluster, OkActions, OkSide, Valid}
use Rattle.meaning.specs.Sheet.{write, IsSheet}
use Rattle.meaning.proofs.SheetLaws.{empty-ok, is-sheet}
use Rattle.machine.specs.Machine.{machine_fault}
use Rattle.lookup.specs.Find.{value_of}
use Rattle.cluster.proofs.Laws.{cluster-ok}
use Rattle.actions.proofs.Laws.{list-ok}
use Rattle.lookup_targets.specs.declared.Kind.{Kind}
use Rattle.lookup_targets.specs.declared.Kind.TheVariants.{Clusters, Lists}
use Rattle.lookup_targets.specs.Values.{spot_of, spot_fault, target_fault, values_fault, cluster_here, list_here, cluster_of, list_of}
use Rattle.table.specs.Table.{machine_offset, width_offset, action_offset, width_lookup, present, offsets_fault, machine_part, action_part, direction_fault, table_fault, Accepted}
use Rattle.meaning.specs.Meaning.{empty_side}
use Rattle.table.specs.Means.{machine_at, machine_of, lists_of, side_at, direction_of, meaning_of}
use Rattle.table_laws.proofs.Machines.{machine-ok}
use Rattle.table_laws.proofs.Faults.{good-header}

-- no cluster and no list keep the limits
no-cluster : OkCluster []
no-cluster = (omega arith, tt, tt)

no-actions : (n : ℕ) → OkActions n []
no-actions n = (omega arith, tt)

module _ (t : List ℕ) (n : ℕ) where
  -- where neither a lookup nor what its values lead to has a fault, nothing that a glyph's value leads to has one
  pub glyph-clear : (kind : Kind) (at base : ℕ) → values_fault t n kind at base ≡ Clear → (g : ℕ) → g < n → target_fault t n kind at base g ≡ Clear
  unfolding values_fault
  glyph-clear kind at base e g h =
      let p : 0 + 1 * g ≡ g = omega arith in
      rw p at (walk-each (λ p _. target_fault t n kind at base p) 1 (λ p. 0) n 0 0 (then-second _ _ e) g h).1

  module _ (w : Bytes t) where
    cluster-here : (s : Option ℕ) → spot_fault t n Clusters s ≡ Clear → OkCluster (cluster_here t s)
    cluster-here (Some p) e = cluster-ok t p e
    cluster-here None e = no-cluster

    list-here : (s : Option ℕ) → spot_fault t n Lists s ≡ Clear → OkActions n (list_here t s)
    list-here (Some p) e = list-ok t n p w e
    list-here None e = no-actions n

    clusters-ok : (at base : ℕ) → values_fault t n Clusters at base ≡ Clear → All OkCluster (upto (cluster_of t n at base) n)
    unfolding cluster_of target_fault
    clusters-ok at base e =
        all-upto (cluster_of t n at base) OkCluster n
        (λ g h. cluster-here (spot_of Clusters base (value_of t n at g)) (glyph-clear Clusters at base e g h))

    lists-ok : (at base : ℕ) → values_fault t n Lists at base ≡ Clear → All (OkActions n) (upto (list_of t n at base) n)
    unfolding list_of target_fault
    lists-ok at base e =
        all-upto (list_of t n at base) (OkActions n) n (λ g h. list-here (spot_of Lists base (value_of t n at g)) (glyph-clear Lists at base e g h))

    machine-part : (offset : ℕ) → machine_part t n offset ≡ Clear → OkMaybe n (machine_of t n offset)
    unfolding machine_part present machine_of
    machine-part offset e = go (eqb offset 0) e
      where
        go : (b : Bool) → cond b Clear (machine_fault t n (offset + 8)) ≡ Clear → OkMaybe n (cond b none (some (machine_at t n (offset + 8))))
        go true e = tt
        go false e = machine-ok t n (offset + 8) w e

    action-part : (offset : ℕ) → action_part t n offset ≡ Clear → (length (lists_of t n offset) ≡ n) × All (OkActions n) (lists_of t n offset)
    unfolding action_part present lists_of
    action-part offset e = go (eqb offset 0) e
      where
        go : (b : Bool) → cond b Clear (values_fault t n Lists offset offset) ≡ Clear
            → (length (cond b (replicate n []) (upto (list_of t n offset offset) n)) ≡ n)
            × All (OkActions n) (cond b (replicate n []) (upto (list_of t n offset offset) n))
        go true e = (length-replicate n [], all_replicate (OkActions n) n [] (no-actions n))
        go false e = (length_from (list_of t n offset offset) n 0, lists-ok offset offset e)

    side-ok : (at : ℕ)
        → (offsets_fault t at then machine_part t n (machine_offset t at) then values_fault t n Clusters (width_lookup at) (width_offset t at) then action_part t n (action_offset t at)) ≡ Clear
        → OkSide n (side_at t n at)
    unfolding side_at
    side-ok at e =
        let f = then-second _ _ e in
        let g = then-second _ _ f in
        let a = action-part (action_offset t at) (then-second _ _ g) in
        record {
          machine = machine-part (machine_offset t at) (then-first _ _ f);
          cluster-count = length_from (cluster_of t n (width_lookup at) (width_offset t at)) n 0;
          clusters = clusters-ok (width_lookup at) (width_offset t at) (then-first _ _ g);
          list_count = a.0;
          lists = a.1;
        }

    direction-ok : (at : ℕ) → direction_fault t n at ≡ Clear → OkSide n (direction_of t n at)
    unfolding direction_fault present direction_of empty_side
    direction-ok at e = go (eqb at 0) e
      where
        go : (b : Bool)
            → cond b Clear (offsets_fault t at then machine_part t n (machine_offset t at) then values_fault t n Clusters (width_lookup at) (width_offset t at)
            then action_part t n (action_offset t at)) ≡ Clear
            → OkSide n (cond b (empty_side n) (side_at t n at))
        go true e = empty-ok n
        go false e = side-ok at e

-- the meaning of an accepted table keeps the limits
pub valid-meaning : (t : List ℕ) (n : ℕ) → Bytes t → Accepted t n → Valid (meaning_of t n)
unfolding Accepted table_fault meaning_of
valid-meaning t n w e =
    let h = (good-header t n).0 (then-first _ _ e) in
    let f = then-second _ _ e in
    record {
      some-glyph = h.some;
      few-glyphs = h.few;
      horizontal = direction-ok t n w (u16_at t 6) (then-first _ _ f);
      vertical = direction-ok t n w (u16_at t 8) (then-second _ _ f);
    }

-- so what is written for it is a sheet
pub table-sheet : (t : List ℕ) (n : ℕ) → Bytes t → Accepted t n → IsSheet (write (meaning_of t n))
table-sheet t n w e = is-sheet (meaning_of t n) (valid-meaning t n w e)
