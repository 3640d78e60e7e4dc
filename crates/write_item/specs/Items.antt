-- The clusters and the action lists of a table under one name, as the sheet writes them (document 01, "The sheet", sections 5 and 7): both are
-- numbered and written in the same way.
use Rattle.std.specs.Prelude.{ℕ, List, []}
use Rattle.encoding.specs.Codes.{counted}
use Rattle.encoding.specs.Dictionary.{Before}
use Rattle.types.specs.declared.Pair.{Pair}
use Rattle.meaning.specs.Meaning.{Action}
use Rattle.meaning.specs.Discrete.{cluster-discrete, list-discrete}
use Rattle.meaning.specs.Sheet.{pair_code, action_code}
use Rattle.cluster.specs.Pairs.{cluster_at}
use Rattle.actions.specs.Actions.{list_at}
use Rattle.write_cluster.specs.Hash.{cluster_hash}
use Rattle.write_cluster.specs.Words.{cluster_words}
use Rattle.write_list.specs.Hash.{list_hash}
use Rattle.write_list.specs.Words.{list_words}
use Rattle.lookup_targets.specs.declared.Kind.{Kind}
use Rattle.lookup_targets.specs.declared.Kind.TheVariants.{Clusters, Lists}

-- a cluster's pairs, or a list's actions
abbrev pub Item : Kind → Type 0
Item Clusters = List Pair
Item Lists = List Action

-- what a glyph without a cluster, or without actions, has
abbrev pub no_item : (kind : Kind) → Item kind
no_item Clusters = []
no_item Lists = []

-- what stands at a position; nothing past the table, where the count is read as 0
unfoldable pub item_at : (kind : Kind) → List ℕ → ℕ → Item kind
item_at Clusters t at = cluster_at t at
item_at Lists t at = list_at t at

-- compared as written
unfoldable pub item-discrete : (kind : Kind) → Discrete (Item kind)
item-discrete Clusters = cluster-discrete
item-discrete Lists = list-discrete

-- the bytes that it is written in
unfoldable pub item_code : (kind : Kind) → Item kind → List ℕ
item_code Clusters = counted pair_code
item_code Lists = counted action_code

-- a number below 2^32, the same for items that are the same: it tells where to look for one
unfoldable pub item_hash : (kind : Kind) → Item kind → ℕ
item_hash Clusters = cluster_hash
item_hash Lists = list_hash

-- the fields of an item in the order in which they are written, counts and lengths of data among them
unfoldable pub item_words : (kind : Kind) → Item kind → List ℕ
item_words Clusters = cluster_words
item_words Lists = list_words

-- x comes before y, as words in a dictionary
unfoldable pub Earlier : (kind : Kind) → Item kind → Item kind → Type 0
Earlier kind x y = Before (item_words kind x) (item_words kind y)
