-- The clusters and the action lists of a sheet under one name (document 01, "The sheet", sections 5 to 8).
use Rattle.std.specs.Prelude.{ℕ, ◌≤◌, ◌≡◌, List, [], length}
use Rattle.encoding.specs.Codes.{All, counted}
use Rattle.encoding.specs.Sections.{pool}
use Rattle.types.specs.declared.Pair.{Pair}
use Rattle.meaning.specs.Meaning.{Action, Side}
use Rattle.meaning.specs.Limits.{OkCluster, OkActions}
use Rattle.meaning.specs.Discrete.{cluster-discrete, list-discrete}
use Rattle.meaning.specs.Sheet.{pair_code, action_code}
use Rattle.meaning.specs.Wide.{FewPairs, FewActions}
use Rattle.sheet_items.specs.declared.Sort.{Sort}
use Rattle.sheet_items.specs.declared.Sort.TheVariants.{Clusters, Lists}

-- a cluster's pairs, or a list's actions
abbrev pub Item : Sort → Type 0
Item Clusters = List Pair
Item Lists = List Action

-- each glyph's, in a direction
abbrev pub items_in : (sort : Sort) → Side → List (Item sort)
items_in Clusters s = s.clusters
items_in Lists s = s.lists

-- what a glyph without a cluster, or without actions, has
abbrev pub no_item : (sort : Sort) → Item sort
no_item Clusters = []
no_item Lists = []

-- compared as written
abbrev pub item-discrete : (sort : Sort) → Discrete (Item sort)
item-discrete Clusters = cluster-discrete
item-discrete Lists = list-discrete

-- the bytes that it is written in
abbrev pub item_code : (sort : Sort) → Item sort → List ℕ
item_code Clusters = counted pair_code
item_code Lists = counted action_code

-- the limits of one, or of none, in a sheet of n glyphs
abbrev pub OkItem : (sort : Sort) → ℕ → Item sort → Type 0
OkItem Clusters n ps = OkCluster ps
OkItem Lists n l = OkActions n l

-- one that is written has a pair or an action at least
abbrev pub SomeItem : (sort : Sort) → ℕ → Item sort → Type 0
SomeItem Clusters n ps = (1 ≤ length ps) × OkCluster ps
SomeItem Lists n l = (1 ≤ length l) × OkActions n l

-- one whose fields the bytes can hold
abbrev pub FewItem : (sort : Sort) → Item sort → Type 0
FewItem Clusters = FewPairs
FewItem Lists = FewActions

-- both sections: the distinct items, and the runs of glyphs that have one of them
abbrev pub pool_bytes : (sort : Sort) → List (Item sort) → List ℕ
pool_bytes sort = pool (item-discrete sort) (item_code sort) (no_item sort)

-- the items of n glyphs
abbrev pub OkPool : (sort : Sort) → ℕ → List (Item sort) → Type 0
OkPool sort n xs = (length xs ≡ n) × All (OkItem sort n) xs
