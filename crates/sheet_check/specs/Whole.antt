-- Sections 5 to 8 of a direction, and both directions of a sheet (document 01, "The sheet").
use Rattle.std.specs.Prelude.{ℕ, List, ◌++◌}
use Rattle.types.specs.declared.Pair.{Pair}
use Rattle.meaning.specs.Meaning.{Action, Side}
use Rattle.meaning.specs.Limits.{OkSide}
use Rattle.meaning.specs.Sheet.{write_side, cluster_bytes, list_bytes}
use Rattle.sheet_items.specs.declared.Sort.TheVariants.{Clusters, Lists}
use Rattle.sheet_items.specs.Items.{OkPool}

-- the clusters and the action lists of so many glyphs
abbrev pub values_bytes : List (List Pair) × List (List Action) → List ℕ
values_bytes p = cluster_bytes p.0 ++ list_bytes p.1

abbrev pub OkValues : ℕ → List (List Pair) × List (List Action) → Type 0
OkValues glyphs p = OkPool Clusters glyphs p.0 × OkPool Lists glyphs p.1

-- horizontal and vertical
abbrev pub sides_bytes : Side × Side → List ℕ
sides_bytes p = write_side p.0 ++ write_side p.1

abbrev pub OkSides : ℕ → Side × Side → Type 0
OkSides glyphs p = OkSide glyphs p.0 × OkSide glyphs p.1
