-- What is read where a part of a sheet stands (document 01, "The sheet"): a machine's sizes, a cell, a cluster's record, a list's action.
use Rattle.std.specs.Prelude.{ℕ, ◌+◌, ◌*◌, ◌≤◌, ◌<◌, ◌≡◌, List, ◌++◌, length, get_or, drop, Option, Some, None, Ok}
use Rattle.std.proofs.Math.ListN.{get_elem?}
use Rattle.fields.specs.Field.{u32_at}
use Rattle.encoding.specs.Sections.{numbered}
use Rattle.types.specs.declared.Direction.{Direction}
use Rattle.types.specs.declared.Entry.{Entry}
use Rattle.types.specs.declared.Pair.{Pair}
use Rattle.types.specs.declared.HeldAction.{HeldAction}
use Rattle.meaning.specs.Meaning.{Action, Meaning}
use Rattle.meaning.specs.Discrete.{Entry-discrete}
use Rattle.meaning.specs.Limits.{OkCluster, OkActions, Valid}
use Rattle.meaning.specs.Sheet.{entry_code, write}
use Rattle.meaning.specs.Ask.{maybe, entry, pair, act, record_of, side_of}
use Rattle.answers.specs.Says.{given, says_cell, says_record, says_action, room_of, room_after}
use Rattle.sheet_cells.specs.Cells.{OkCells}
use Rattle.sheet_cluster.specs.Clusters.{cluster_code}
use Rattle.sheet_list.specs.Action.{list_code}
use Rattle.sheet_machine.specs.Machine.{Sizes}
use Rattle.sheet_items.specs.declared.Sort.{Sort}
use Rattle.sheet_seek.specs.Passes.{Passes, side_on}
use Rattle.sheet_items.specs.Items.{items_in, no_item, item_code}

-- section 1 stands there and has a machine
abbrev pub HasMachine : List ℕ → ℕ → Type 0
HasMachine bytes at = (at + 12 ≤ length bytes) × (u32_at bytes at ≡ 0 → ⊥)

-- where a direction's machine stands, if it has one
abbrev pub MachineIn : List ℕ → Direction → Option ℕ → Type 0
MachineIn bytes d (Some at) = Passes write (side_on d) Valid bytes 0 at × HasMachine bytes at
MachineIn bytes d None = (at : ℕ) × Passes write (side_on d) Valid bytes 0 at × (HasMachine bytes at → ⊥)

-- the k-th of the cells that stand at a place
abbrev pub CellIn : List ℕ → ℕ → ℕ → Option Entry → Type 0
CellIn bytes at k r =
    (rows classes : ℕ) (cells : List Entry) (rest : List ℕ) → Sizes rows classes → OkCells rows (rows * classes) cells
    → drop at bytes ≡ numbered Entry-discrete entry_code cells ++ rest → k < rows * classes
    → says_cell (Ok r) ≡ given (entry (get_or cells k (record { row = 0; flags = 0 })))

-- where a glyph's cluster or action list stands, of the meaning that the bytes are written for; nowhere where it has none
abbrev pub ItemOf : List ℕ → Direction → (sort : Sort) → ℕ → Option ℕ → Type 0
ItemOf bytes d sort glyph (Some p) =
    (m : Meaning) → Valid m → write m ≡ bytes → (rest : List ℕ) × (drop p bytes ≡ item_code sort (get_or (items_in sort (side_of d m)) glyph (no_item sort)) ++ rest)
ItemOf bytes d sort glyph None = (m : Meaning) → Valid m → write m ≡ bytes → get_or (items_in sort (side_of d m)) glyph (no_item sort) ≡ no_item sort

-- the record of a class in the cluster that stands at a place
abbrev pub RecordIn : List ℕ → ℕ → ℕ → Option Pair → Type 0
RecordIn bytes at c r =
    (ps : List Pair) (rest : List ℕ) → OkCluster ps → drop at bytes ≡ cluster_code ps ++ rest → says_record (Ok r) ≡ given (maybe pair (record_of c ps))

-- the action with a number in the list that stands at a place; what its room holds
pub record ActionIn (bytes : List ℕ) (at k : ℕ) (r : Option HeldAction) : Type 0 where
  pub answer : (n : ℕ) (l : List Action) (rest : List ℕ) → OkActions n l → drop at bytes ≡ list_code l ++ rest
      → says_action (Ok r) ≡ given (maybe act (get_elem? l k))
  pub room : room_of (Ok r) ≡ room_after (says_action (Ok r))
