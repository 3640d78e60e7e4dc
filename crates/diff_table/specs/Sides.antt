-- A direction of two accepted tables, t and u, and the parts in which it can differ (document 02, 6/14), by its offset in each table, 0 where it is absent.
use Rattle.std.specs.Prelude.{ℕ, List}
use Rattle.types.specs.declared.Direction.{Direction}
use Rattle.meaning.specs.Limits.{OkSide}
use Rattle.lookup_targets.specs.declared.Kind.{Kind}
use Rattle.table.specs.Table.{direction_at, machine_place, source_at}
use Rattle.table.specs.Means.{machine_of, direction_of}
use Rattle.write_direction.specs.Side.{ClearSide}
use Rattle.diff_rule.specs.declared.Difference.{Difference}
use Rattle.diff_rule.specs.Differences.{machines_differ, sides_differ}
use Rattle.diff_stretches.specs.declared.Sources.{Sources}
use Rattle.diff_glyphs.specs.Glyphs.{glyphs_differ}
use Rattle.diff_table.specs.declared.DirectionPair.{DirectionPair}

-- in one table it has no fault, and its parts keep their limits
pub record GoodSide (t : List ℕ) (n at : ℕ) : Type 0 where
  pub clear : ClearSide t n at
  pub limits : OkSide n (direction_of t n at)

pub record GoodSides (t u : List ℕ) (s : DirectionPair) : Type 0 where
  pub first : GoodSide t s.glyphs s.first
  pub second : GoodSide u s.glyphs s.second

-- where it stands
abbrev pub sides_of : List ℕ → List ℕ → ℕ → Direction → DirectionPair
sides_of t u n d = record { direction = d; glyphs = n; first = direction_at t d; second = direction_at u d }

-- where the glyphs' clusters, or their lists, come from
abbrev pub sources_of : List ℕ → List ℕ → DirectionPair → Kind → Sources
sources_of t u s kind = record { kind = kind; glyphs = s.glyphs; first = source_at t s.first kind; second = source_at u s.second kind }

-- what differs in the machines, in the glyphs' clusters or lists, and in all
abbrev pub machines_in : List ℕ → List ℕ → DirectionPair → List Difference
machines_in t u s = machines_differ s.direction s.glyphs (machine_of t s.glyphs (machine_place t s.first)) (machine_of u s.glyphs (machine_place u s.second))

abbrev pub glyphs_in : List ℕ → List ℕ → DirectionPair → Kind → List Difference
glyphs_in t u s kind = glyphs_differ s.direction t u (sources_of t u s kind)

abbrev pub sides_in : List ℕ → List ℕ → DirectionPair → List Difference
sides_in t u s = sides_differ s.direction s.glyphs (direction_of t s.glyphs s.first) (direction_of u s.glyphs s.second)
