-- What differs in the glyphs' clusters, or in their action lists, in two tables t and u (document 02, 6/14), by where each table's come from: a source each.
use Rattle.std.specs.Prelude.{ℕ, ◌*◌, ◌≤◌, ◌<◌, ◌≡◌, List, [], length, get_or, Option, Some, None}
use Rattle.types.specs.declared.Direction.{Direction}
use Rattle.meaning.specs.Limits.{Rising}
use Rattle.lookup_targets.specs.declared.Kind.{Kind}
use Rattle.lookup_targets.specs.declared.Kind.TheVariants.{Clusters, Lists}
use Rattle.lookup_targets.specs.declared.Source.{Source}
use Rattle.write_item.specs.Items.{Item, item_at}
use Rattle.diff_stretches.specs.declared.Both.{Both}
use Rattle.diff_stretches.specs.declared.Sources.{Sources}
use Rattle.diff_stretches.specs.Stretches.{item_by, BothSound}
use Rattle.diff_rule.specs.declared.Difference.{Difference}
use Rattle.diff_rule.specs.Differences.{through, records_differ, list_differs}
use Rattle.diff_rule.specs.Order.{all_numbers}
use Rattle.diff_rule.specs.Again.{again}
use Rattle.diff_glyphs.specs.declared.Compared.{Compared}

-- the differences of a glyph that has these two clusters, or lists
unfoldable pub item_differs : (kind : Kind) → Direction → ℕ → Item kind → Item kind → List Difference
item_differs Clusters d g x y = records_differ d g x y
item_differs Lists d g x y = list_differs d g x y

-- of one whose clusters, or lists, stand at two places
unfoldable pub places_differ : (kind : Kind) → Direction → List ℕ → List ℕ → Both ℕ → ℕ → List Difference
places_differ kind d t u places g = item_differs kind d g (item_at kind t places.first) (item_at kind u places.second)

-- of a glyph, and of all
unfoldable pub glyph_differs : Direction → List ℕ → List ℕ → Sources → ℕ → List Difference
glyph_differs d t u s g = item_differs s.kind d g (item_by s.kind t s.glyphs s.first g) (item_by s.kind u s.glyphs s.second g)

unfoldable pub glyphs_differ : Direction → List ℕ → List ℕ → Sources → List Difference
glyphs_differ d t u s = through (glyph_differs d t u s) s.glyphs 0

-- the classes of a cluster rise
unfoldable pub Rises : (kind : Kind) → Item kind → Type 0
Rises Clusters ps = Rising 0 ps
Rises Lists l = Unit {0}

-- those of each glyph's
pub record AllRise (kind : Kind) (t : List ℕ) (n : ℕ) (source : Option Source) : Type 0 where
  pub each : (g : ℕ) → g < n → Rises kind (item_by kind t n source g)

-- two tables whose sources can be compared
pub record Comparable (t u : List ℕ) (s : Sources) : Type 0 where
  pub sound : BothSound t u s
  pub first : AllRise s.kind t s.glyphs s.first
  pub second : AllRise s.kind u s.glyphs s.second

-- what was compared last: a glyph with these two places has so many differences, and a block begins with their numbers
pub record LastCompared (kind : Kind) (d : Direction) (t u block : List ℕ) (c : Compared) : Type 0 where
  pub room : 5 * 128 ≤ length block
  pub few : c.each ≤ 128
  pub again : (g : ℕ) → again c.each block g 0 ≡ all_numbers (places_differ kind d t u c.places g)

-- each pair of places that is kept holds the same: a glyph that has them has no difference
pub record SamePairs (kind : Kind) (d : Direction) (t u : List ℕ) (same : List (Option (Both ℕ))) : Type 0 where
  pub room : 64 ≤ length same
  pub alike : (i : ℕ) (places : Both ℕ) → get_or same i None ≡ Some places → (g : ℕ) → places_differ kind d t u places g ≡ []
