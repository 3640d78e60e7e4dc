-- An item that is written, and one or none, of either sort.
use Prim.Native.Nat.{ℕ, ◌≤◌}
use mathlib.Core.Path.{◌≡◌, refl, ap}
use mathlib.Core.List.{[], ◌∷◌}
use native.Mathlib.Omega.{arith}
use lib.ListN.{length}
use Rattle.encoding.specs.Codes.{PrefixFree}
use Rattle.meaning.proofs.SheetLaws.{cluster-free, few-pairs, list-free, few-actions}
use Rattle.sheet_items.specs.declared.Sort.{Sort}
use Rattle.sheet_items.specs.declared.Sort.TheVariants.{Clusters, Lists}
use Rattle.sheet_items.specs.Items.{Item, no_item, item_code, OkItem, SomeItem, FewItem}

pub some-free : (sort : Sort) (n : ℕ) → PrefixFree (item_code sort) (SomeItem sort n)
some-free Clusters n a b s t ha hb e = cluster-free a b s t (few-pairs a ha.1) (few-pairs b hb.1) e
some-free Lists n a b s t ha hb e = list-free a b s t (few-actions n a ha.1) (few-actions n b hb.1) e

pub none-ok : (sort : Sort) (n : ℕ) → OkItem sort n (no_item sort)
none-ok Clusters n = (omega arith, tt, tt)
none-ok Lists n = (omega arith, tt)

pub some→ : (sort : Sort) (n : ℕ) (x : Item sort) → SomeItem sort n x → (no_item sort ≡ x → ⊥) × OkItem sort n x
some→ Clusters n x h = ((λ e. omega (arith, h.0, ap length e)), h.1)
some→ Lists n x h = ((λ e. omega (arith, h.0, ap length e)), h.1)

pub some← : (sort : Sort) (n : ℕ) (x : Item sort) → (no_item sort ≡ x → ⊥) → OkItem sort n x → SomeItem sort n x
some← Clusters n [] h o = absurd (h refl)
some← Clusters n (p ∷ x) h o = (omega arith, o)
some← Lists n [] h o = absurd (h refl)
some← Lists n (a ∷ x) h o = (omega arith, o)

pub item-few : (sort : Sort) (n : ℕ) (x : Item sort) → OkItem sort n x → FewItem sort x
item-few Clusters n x h = few-pairs x h
item-few Lists n x h = few-actions n x h

pub none-few : (sort : Sort) → FewItem sort (no_item sort)
none-few Clusters = (omega arith, tt)
none-few Lists = (omega arith, tt)

-- no item is written in no bytes
pub item-long : (sort : Sort) (x : Item sort) → 1 ≤ length (item_code sort x)
item-long Clusters x = omega arith
item-long Lists x = omega arith
