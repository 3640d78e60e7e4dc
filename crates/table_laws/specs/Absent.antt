-- An empty direction (document 01, "The table": an absent direction means what an empty one means): one that is present and holds nothing.
use Rattle.std.specs.Prelude.{None}
use Rattle.std.specs.Prelude.{ℕ, ◌<◌, ◌≡◌, ◌⊎◌, List, []}
use Rattle.types.specs.declared.Direction.{Direction}
use Rattle.types.specs.declared.Direction.TheVariants.{Horizontal, Vertical}
use Rattle.lookup.specs.Find.{value_of}
use Rattle.lookup_targets.specs.Values.{list_of}
use Rattle.table.specs.Table.{direction_at, machine_offset, action_offset, width_lookup}

-- a direction with no machine, no width value at any glyph, and no action lookup or one that leads to no action
pub record EmptyDirection (t : List ℕ) (n at : ℕ) : Type 0 where
  pub no-machine : machine_offset t at ≡ 0
  pub no-widths : (g : ℕ) → g < n → value_of t n (width_lookup at) g ≡ None
  pub no-actions : (action_offset t at ≡ 0) ⊎ ((g : ℕ) → g < n → list_of t n (action_offset t at) (action_offset t at) g ≡ [])

-- where a table's header says that a direction stands, and the other of the two directions
abbrev pub offset_of : List ℕ → Direction → ℕ
offset_of t d = direction_at t d

abbrev pub other : Direction → Direction
other Horizontal = Vertical
other Vertical = Horizontal
