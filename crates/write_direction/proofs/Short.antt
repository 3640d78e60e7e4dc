-- What the glyphs of a direction without fault have is short.
use Rattle.lookup_targets.specs.Values.{from_lookup}
use Rattle.std.specs.Prelude.{None, Option, Some}
use Prim.Native.Nat.{ℕ, ◌+◌, ◌*◌, ◌≤◌, ◌<◌}
use mathlib.Core.Path.{◌≡◌, refl, sym, ap, ◌∙◌}
use mathlib.Core.List.{List, [], ◌∷◌}
use native.Mathlib.Omega.{arith}
use lib.ListN.{length, length-append}
use Rattle.fields.specs.Faults.{Clear}
use Rattle.fields.specs.Field.{Bytes}
use Rattle.fields.proofs.Walk.{walk-each}
use Rattle.fields.proofs.Laws.{then-second}
use Rattle.encoding.specs.Codes.{All, many}
use Rattle.encoding.proofs.CodeLaws.{many-length}
use Rattle.encoding.proofs.ListLaws.{all_replicate}
use Rattle.encoding.proofs.UptoLaws.{all-upto}
use Rattle.types.specs.declared.Pair.{Pair}
use Rattle.meaning.specs.Meaning.{Action}
use Rattle.meaning.specs.Limits.{OkCluster, OkAction, OkActions}
use Rattle.meaning.specs.Sheet.{pair_code, action_code}
use Rattle.lookup.specs.Find.{value_of}
use Rattle.cluster.proofs.Laws.{cluster-ok}
use Rattle.actions.proofs.Laws.{list-ok}
use Rattle.lookup_targets.specs.declared.Kind.{Kind}
use Rattle.lookup_targets.specs.declared.Kind.TheVariants.{Clusters, Lists}
use Rattle.lookup_targets.specs.Values.{spot_of, spot_fault, target_fault, values_fault}
use Rattle.encoding.proofs.SectionLaws.{many-byte}
use Rattle.write_item.specs.Items.{no_item, item_at, item_code}
use Rattle.write_glyphs.specs.Places.{item_here, items_from}
use Rattle.write_pool.specs.Pool.{Short}
use Rattle.write_pool.proofs.Laws.{none-short}

cluster-short : (ps : List Pair) → OkCluster ps → Short Clusters ps
unfolding item_code
cluster-short ps ok = omega (arith, ok.0, many-length pair_code 24 (λ p. refl) ps)

actions-short : (n : ℕ) (l : List Action) → All (OkAction n) l → length (many action_code l) ≤ 84 * length l
actions-short n [] ok = omega arith
actions-short n (a ∷ l) ok =
    omega (arith, actions-short n l ok.1, ok.0.2, ap length (many-byte a.content), length-append (action_code a) (many action_code l))

list-short : (n : ℕ) (l : List Action) → OkActions n l → Short Lists l
unfolding item_code
list-short n l ok = omega (arith, ok.0, actions-short n l ok.1)

spot-short : (t : List ℕ) (n : ℕ) → Bytes t → (kind : Kind) (spot : Option ℕ) → spot_fault t n kind spot ≡ Clear → Short kind (item_here kind t spot)
unfolding item_at
spot-short t n w kind None e = none-short kind
spot-short t n w Clusters (Some p) e = cluster-short _ (cluster-ok t p e)
spot-short t n w Lists (Some p) e = list-short n _ (list-ok t n p w e)

module _ (t : List ℕ) (n : ℕ) (kind : Kind) where
  glyph-clear : (at base g : ℕ) → values_fault t n kind at base ≡ Clear → g < n → spot_fault t n kind (spot_of kind base (value_of t n at g)) ≡ Clear
  unfolding values_fault target_fault
  glyph-clear at base g e h =
      let r = walk-each (λ p _. target_fault t n kind at base p) 1 (λ p. 0) n 0 0 (then-second _ _ e) g h in
      let z : 0 + 1 * g ≡ g = omega arith in
      ap (target_fault t n kind at base) (sym z) ∙ r.1

  pub looked-short : (at base : ℕ) → Bytes t → values_fault t n kind at base ≡ Clear → All (Short kind) (items_from kind t n (from_lookup at base))
  unfolding items_from
  looked-short at base w e =
      all-upto (λ g. item_here kind t (spot_of kind base (value_of t n at g))) (Short kind) n
      (λ g h. spot-short t n w kind (spot_of kind base (value_of t n at g)) (glyph-clear at base g e h))

  pub absent-short : All (Short kind) (items_from kind t n None)
  unfolding items_from
  absent-short = all_replicate (Short kind) n (no_item kind) (none-short kind)
