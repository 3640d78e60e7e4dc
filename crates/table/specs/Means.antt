-- A table's meaning (document 01, "The sheet"): what "The table" reads from its bytes with N, each part as the sheet writes it.
use Rattle.std.specs.Prelude.{ℕ, ◌+◌, ◌*◌, cond, List, [], get_or, replicate, eqb}
use Rattle.std.proofs.Math.Option.{Option, none, some}
use Rattle.types.specs.declared.Direction.TheVariants.{Horizontal, Vertical}
use Rattle.encoding.specs.Upto.{upto}
use Rattle.types.specs.declared.Entry.{Entry}
use Rattle.machine.specs.Cells.{class_count, class_at, entry_at, state_array}
use Rattle.machine.specs.Rows.{row_count}
use Rattle.lookup_targets.specs.Values.{cluster_of, list_of}
use Rattle.meaning.specs.Meaning.{Machine, Action, Side, empty_side, Meaning}
use Rattle.table.specs.Table.{direction_at, machine_offset, width_offset, action_offset, width_lookup}

-- the cell with an index, counted row by row
unfoldable pub cell_by : List ℕ → ℕ → ℕ → Entry
cell_by t here k = entry_at t here (get_or t (state_array t here + k) 0)

-- the machine whose class count stands at `here`
unfoldable pub machine_at : List ℕ → ℕ → ℕ → Machine
machine_at t n here =
    record {
      rows = row_count t here;
      classes = class_count t here;
      columns = upto (class_at t here) n;
      cells = upto (cell_by t here) (row_count t here * class_count t here);
    }

-- a part at offset 0 is absent
unfoldable pub machine_of : List ℕ → ℕ → ℕ → Option Machine
machine_of t n offset = cond (eqb offset 0) none (some (machine_at t n (offset + 8)))

unfoldable pub lists_of : List ℕ → ℕ → ℕ → List (List Action)
lists_of t n offset = cond (eqb offset 0) (replicate n []) (upto (list_of t n offset offset) n)

unfoldable pub side_at : List ℕ → ℕ → ℕ → Side
side_at t n at =
    record {
      machine = machine_of t n (machine_offset t at);
      clusters = upto (cluster_of t n (width_lookup at) (width_offset t at)) n;
      lists = lists_of t n (action_offset t at);
    }

-- an absent direction means what an empty one means
unfoldable pub direction_of : List ℕ → ℕ → ℕ → Side
direction_of t n at = cond (eqb at 0) (empty_side n) (side_at t n at)

unfoldable pub meaning_of : List ℕ → ℕ → Meaning
meaning_of t n = record { glyphs = n; horizontal = direction_of t n (direction_at t Horizontal); vertical = direction_of t n (direction_at t Vertical) }
