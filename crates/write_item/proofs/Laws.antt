-- An item is none exactly where its count is read as 0.
use Prim.Native.Nat.{ℕ, ◌≤◌}
use mathlib.Core.Path.{◌≡◌, refl, sym, ap, ◌∙◌}
use mathlib.Core.List.{List, [], ◌∷◌}
use native.Mathlib.Omega.{arith}
use lib.ListN.{length}
use Rattle.fields.specs.Field.{u32_at}
use Rattle.fields.proofs.Laws.{u32_at-past}
use Rattle.cluster.proofs.Laws.{cluster-length}
use Rattle.actions.proofs.Laws.{list_length}
use Rattle.lookup_targets.specs.declared.Kind.{Kind}
use Rattle.lookup_targets.specs.declared.Kind.TheVariants.{Clusters, Lists}
use Rattle.write_item.specs.Items.{no_item, item_at}

empty : {A : Type 0} (l : List A) → length l ≡ 0 → l ≡ []
empty [] h = refl
empty (x ∷ l) h = absurd (omega arith)

pub item-none : (kind : Kind) (t : List ℕ) (at : ℕ) → u32_at t at ≡ 0 → no_item kind ≡ item_at kind t at
unfolding item_at
item-none Clusters t at h = sym (empty _ (cluster-length t at ∙ h))
item-none Lists t at h = sym (empty _ (list_length t at ∙ h))

pub item-some : (kind : Kind) (t : List ℕ) (at : ℕ) → (u32_at t at ≡ 0 → ⊥) → no_item kind ≡ item_at kind t at → ⊥
unfolding item_at
item-some Clusters t at h e = h (sym (cluster-length t at) ∙ ap length (sym e))
item-some Lists t at h e = h (sym (list_length t at) ∙ ap length (sym e))

-- nothing stands past the table
pub item-past : (kind : Kind) (t : List ℕ) (at : ℕ) → length t ≤ at → item_at kind t at ≡ no_item kind
item-past kind t at h = sym (item-none kind t at (u32_at-past t at h))
