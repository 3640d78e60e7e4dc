-- None is the first of the distinct items.
use Prim.Native.Nat.{ℕ, suc}
use mathlib.Core.Path.{◌≡◌}
use mathlib.Core.Logic.{if_pos, if_neg}
use mathlib.Core.List.{List}
use Rattle.fields.specs.Field.{u32_at}
use Rattle.encoding.specs.Distinct.{index}
use Rattle.lookup_targets.specs.declared.Kind.{Kind}
use Rattle.write_item.specs.Items.{no_item, item_at, item-discrete}
use Rattle.write_item.proofs.Laws.{item-none, item-some}
use Rattle.write_numbers.specs.Numbered.{placed, item_number}

module _ (kind : Kind) (t firsts : List ℕ) (place : ℕ) where
  pub number-none : u32_at t place ≡ 0 → item_number kind t firsts place ≡ 0
  number-none h = if_pos (item-discrete kind (no_item kind) (item_at kind t place)) (item-none kind t place h) _ _

  pub number-some : (u32_at t place ≡ 0 → ⊥) → item_number kind t firsts place ≡ suc (index (item-discrete kind) (item_at kind t place) (placed kind t firsts))
  number-some h = if_neg (item-discrete kind (no_item kind) (item_at kind t place)) (item-some kind t place h) _ _
