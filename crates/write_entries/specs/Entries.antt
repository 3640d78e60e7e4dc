-- Sections 3 and 4 of a sheet for the machine of a table (document 01, "The sheet"): its distinct entries in order of first use, row by row, and each
-- cell's entry by its number. Entries are distinct by row number and flags: two stored numbers may name the same one.
use Rattle.std.specs.Prelude.{ℕ, ◌+◌, ◌≤◌, ◌<◌, ◌≡◌, List, [], map, get_or, take, Option, Some, None, IsSome}
use Rattle.std.specs.Option.{unwrap_or}
use Rattle.encoding.specs.Upto.{upto}
use Rattle.encoding.specs.Distinct.{index, distinct}
use Rattle.encoding.specs.Sections.{numbered}
use Rattle.types.specs.declared.Entry.{Entry}
use Rattle.meaning.specs.Discrete.{Entry-discrete}
use Rattle.meaning.specs.Sheet.{entry_code}
use Rattle.machine.specs.Cells.{state_array, entry_at}

-- the stored numbers of n cells, row by row
unfoldable pub stored_at : List ℕ → ℕ → ℕ → List ℕ
stored_at t here n = upto (λ k. get_or t (state_array t here + k) 0) n

-- the entries of these stored numbers
abbrev pub stored_entries : List ℕ → ℕ → List ℕ → List Entry
stored_entries t here numbers = map (entry_at t here) numbers

-- the distinct ones among the entries of n cells
unfoldable pub distinct_of : List ℕ → ℕ → ℕ → List Entry
distinct_of t here n = distinct Entry-discrete [] (stored_entries t here (stored_at t here n))

-- the two sections
unfoldable pub entry_bytes : List ℕ → ℕ → ℕ → List ℕ
entry_bytes t here n = numbered Entry-discrete entry_code (stored_entries t here (stored_at t here n))

-- The first k of `firsts` are stored numbers whose entries are the distinct ones; the array `sheet` maps the stored number of each cell to the number of
-- its entry in the sheet.
pub record NumberedEntries (t : List ℕ) (here n : ℕ) (firsts : List ℕ) (sheet : List (Option ℕ)) (k : ℕ) : Type 0 where
  pub few : k ≤ 256
  pub found : distinct_of t here n ≡ stored_entries t here (take k firsts)
  pub each : (j : ℕ) → j < n
      → get_or sheet (get_or (stored_at t here n) j 0) None ≡ Some (index Entry-discrete (entry_at t here (get_or (stored_at t here n) j 0)) (distinct_of t here n))

-- the bytes of section 4 without their count: the numbers that the array has for the cells
unfoldable pub cell_bytes : List (Option ℕ) → List ℕ → List ℕ
cell_bytes sheet stored = map (λ (q : ℕ). unwrap_or (get_or sheet q None) 0) stored

-- the array has a number for each of n cells
abbrev pub Covers : List (Option ℕ) → List ℕ → ℕ → Type 0
Covers sheet stored n = (j : ℕ) → j < n → IsSome (get_or sheet (get_or stored j 0) None)
