-- The bytes that are written for a meaning (document 01, "The sheet"): N, then eight sections for horizontal and eight for vertical, each after its
-- 32-bit count; and which bytes are a sheet.
use Rattle.std.specs.Prelude.{ℕ, ◌≡◌, List, [], ◌∷◌, ◌++◌}
use Rattle.std.proofs.Math.Option.{Option, none, some}
use Rattle.fields.specs.Field.{be16, be32}
use Rattle.encoding.specs.Codes.{counted}
use Rattle.encoding.specs.Sections.{byte, run_section, distinct_section, number_section, others_section, others_run_section, numbered, pool}
use Rattle.types.specs.declared.Entry.{Entry}
use Rattle.types.specs.declared.Pair.{Pair}
use Rattle.meaning.specs.Meaning.{Machine, Action, Side, Meaning}
use Rattle.meaning.specs.Discrete.{Entry-discrete, cluster-discrete, list-discrete}
use Rattle.meaning.specs.Limits.{Valid}

-- ---- what stands in the sections

-- S and class count, 32-bit each
abbrev pub sizes_code : ℕ × ℕ → List ℕ
sizes_code p = be32 p.0 ++ be32 p.1

-- row number and flags, 16-bit each
abbrev pub entry_code : Entry → List ℕ
entry_code e = be16 e.row ++ be16 e.flags

-- a width record in 24 bytes: class; before grow and shrink, after grow and shrink; grow flags, shrink flags
abbrev pub pair_code : Pair → List ℕ
pair_code p =
    be32 p.class
    ++ be32 p.before.grow ++ be32 p.before.shrink
    ++ be32 p.after.grow ++ be32 p.after.shrink
    ++ be16 p.flags.grow ++ be16 p.flags.shrink

-- class and type, 16-bit each, then the data after its 32-bit length
abbrev pub action_code : Action → List ℕ
action_code a = be16 a.class ++ be16 a.ty ++ counted byte a.content

-- ---- a machine's parts, and nothing where there is no machine

abbrev pub sizes_of : Option Machine → List (ℕ × ℕ)
sizes_of none = []
sizes_of (some m) = (m.rows, m.classes) ∷ []

abbrev pub columns_of : Option Machine → List ℕ
columns_of none = []
columns_of (some m) = m.columns

abbrev pub cells_of : Option Machine → List Entry
cells_of none = []
cells_of (some m) = m.cells

-- ---- the sections of one direction

-- 1: the machine's sizes
abbrev pub machine_section : Option Machine → List ℕ
machine_section m = counted sizes_code (sizes_of m)

-- 2: runs of glyphs of one class other than 1
abbrev pub class_section : Option Machine → List ℕ
class_section m = run_section 1 (columns_of m)

-- 3: distinct entries
abbrev pub entry_section : Option Machine → List ℕ
entry_section m = distinct_section Entry-discrete entry_code (cells_of m)

-- 4: each cell's entry by its number
abbrev pub cell_section : Option Machine → List ℕ
cell_section m = number_section Entry-discrete (cells_of m)

-- 5: distinct clusters
abbrev pub cluster_section : List (List Pair) → List ℕ
cluster_section clusters = others_section cluster-discrete (counted pair_code) [] clusters

-- 6: runs of glyphs of one cluster
abbrev pub cluster_run_section : List (List Pair) → List ℕ
cluster_run_section clusters = others_run_section cluster-discrete [] clusters

-- 7: distinct action lists
abbrev pub list_section : List (List Action) → List ℕ
list_section lists = others_section list-discrete (counted action_code) [] lists

-- 8: runs of glyphs of one list
abbrev pub list_run_section : List (List Action) → List ℕ
list_run_section lists = others_run_section list-discrete [] lists

-- ---- the same in three groups: sections 1 to 4, 5 and 6, 7 and 8

abbrev pub machine_bytes : Option Machine → List ℕ
machine_bytes m = machine_section m ++ (class_section m ++ numbered Entry-discrete entry_code (cells_of m))

abbrev pub cluster_bytes : List (List Pair) → List ℕ
cluster_bytes = pool cluster-discrete (counted pair_code) []

abbrev pub list_bytes : List (List Action) → List ℕ
list_bytes = pool list-discrete (counted action_code) []

-- ---- the sheet

unfoldable pub write_side : Side → List ℕ
write_side s =
    machine_section s.machine ++ class_section s.machine
    ++ entry_section s.machine ++ cell_section s.machine
    ++ cluster_section s.clusters ++ cluster_run_section s.clusters
    ++ list_section s.lists ++ list_run_section s.lists

unfoldable pub write : Meaning → List ℕ
write m = be32 m.glyphs ++ write_side m.horizontal ++ write_side m.vertical

-- bytes are a sheet exactly when they are written for a meaning whose parts keep their limits
unfoldable pub IsSheet : List ℕ → Type 0
IsSheet bs = (m : Meaning) × Valid m × (write m ≡ bs)
