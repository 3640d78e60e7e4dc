-- Sections 3 and 4 of a direction (document 01, "The sheet"): entries and numbers as they stand in bytes, and what is judged of them. Cells that were
-- judged good are those of `OkMachine`.
use Rattle.std.specs.Prelude.{ℕ, ◌+◌, ◌*◌, ◌≤◌, ◌<◌, ◌≡◌, List, [], length, get_or}
use Rattle.fields.specs.Field.{u16_at}
use Rattle.encoding.specs.Codes.{All, items_at}
use Rattle.encoding.specs.Distinct.{index, distinct, InOrder, Once}
use Rattle.types.specs.declared.Entry.{Entry}
use Rattle.meaning.specs.Discrete.{Entry-discrete}
use Rattle.meaning.specs.Limits.{OkEntry}

-- the entry and the byte that stand at a place
abbrev pub entry_at : List ℕ → ℕ → Entry
entry_at bytes at = record { row = u16_at bytes at; flags = u16_at bytes (at + 2) }

abbrev pub byte_at : List ℕ → ℕ → ℕ
byte_at bytes at = get_or bytes at 0

-- section 3: entries that lead below rows, no two of them equal, at most 256
abbrev pub OkEntries : ℕ → List Entry → Type 0
OkEntries rows entries = Once Entry-discrete entries × All (OkEntry rows) entries × (length entries ≤ 256)

-- section 4: a number for each of so many cells, in order of first use; all of the numbers below count are used
abbrev pub OkNumbers : ℕ → ℕ → List ℕ → Type 0
OkNumbers total count numbers = (length numbers ≡ total) × InOrder count 0 numbers

-- both: so many cells that lead below rows, at most 256 of them distinct
abbrev pub OkCells : ℕ → ℕ → List Entry → Type 0
OkCells rows total cells = (length cells ≡ total) × All (OkEntry rows) cells × (length (distinct Entry-discrete [] cells) ≤ 256)

-- the i-th of the entries from a place on leads below rows, and is none of those before it
abbrev pub NewEntry : ℕ → List ℕ → ℕ → ℕ → Type 0
NewEntry rows bytes at i = ((entry_at bytes (at + 4 * i)).row < rows) × (i ≤ index Entry-discrete (entry_at bytes (at + 4 * i)) (items_at entry_at 4 bytes at i))
