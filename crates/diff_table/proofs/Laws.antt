-- The differences of a direction by where its parts come from, and what an accepted table gives each of them.
use Prim.Native.Nat.{ℕ, ◌<◌, ◌^◌}
use mathlib.Core.Path.{◌≡◌, sym, ap, ap₂, ◌∙◌, subst}
use mathlib.Core.List.{List, [], ◌++◌}
use native.Mathlib.Omega.{arith}
use lib.ListN.{length, get_or, get_or-replicate}
use Rattle.fields.specs.Faults.{Clear}
use Rattle.fields.specs.Field.{Bytes}
use Rattle.encoding.proofs.ListLaws.{all-at}
use Rattle.encoding.proofs.UptoLaws.{get_or-upto}
use Rattle.types.specs.declared.Direction.{Direction}
use Rattle.types.specs.declared.Direction.TheVariants.{Horizontal, Vertical}
use Rattle.meaning.specs.Meaning.{Side}
use Rattle.meaning.specs.Limits.{OkSide, OkCluster, Rising}
use Rattle.lookup_targets.specs.declared.Kind.{Kind}
use Rattle.lookup_targets.specs.declared.Kind.TheVariants.{Clusters, Lists}
use Rattle.lookup_targets.specs.declared.Source.{Source}
use Rattle.std.specs.Prelude.{Option, Some, None}
use Rattle.lookup_targets.specs.Values.{NearSource, source_fault}
use Rattle.table.specs.Table.{direction_at, machine_place, source_at, machine_part, table_fault, Accepted}
use Rattle.table.specs.Means.{direction_of, meaning_of}
use Rattle.table.proofs.Laws.{machine-clear, source_clear}
use Rattle.table_laws.proofs.Valid.{valid-meaning}
use Rattle.write_item.specs.Items.{no_item}
use Rattle.write_glyphs.specs.Places.{items_from, glyph_item, SoundSource}
use Rattle.write_direction.proofs.Laws.{by-sources, direction-is, source_sound, side-clear}
use Rattle.diff_stretches.specs.Stretches.{item_by}
use Rattle.diff_rule.specs.declared.Difference.{Difference}
use Rattle.diff_rule.specs.Differences.{records_differ, widths_differ, list_differs, lists_differ, sides_differ, differences}
use Rattle.diff_rule.specs.Order.{all_numbers}
use Rattle.diff_rule.proofs.Empty.{same-empty}
use Rattle.diff_rule.proofs.Order.{differences-few}
use Rattle.diff_rule.proofs.Stored.{numbers-length}
use Rattle.diff_rule.proofs.Through.{through_same}
use Rattle.diff_glyphs.specs.Glyphs.{item_differs, glyph_differs, glyphs_differ, Rises, AllRise, Comparable}
use Rattle.diff_table.specs.declared.DirectionPair.{DirectionPair}
use Rattle.diff_table.specs.Sides.{GoodSide, GoodSides, sides_of, sources_of, machines_in, glyphs_in, sides_in}

-- ---- a direction by its sources

item-get : (kind : Kind) (t : List ℕ) (n : ℕ) (s : Option Source) (g : ℕ) → g < n → get_or (items_from kind t n s) g (no_item kind) ≡ item_by kind t n s g
unfolding items_from
item-get kind t n (Some s) g l = get_or-upto (glyph_item kind t n s.at s.base) n g (no_item kind) l
item-get kind t n None g l = get_or-replicate n g (no_item kind) (no_item kind) l

module _ (t u : List ℕ) (s : DirectionPair) where
  abbrev one : Side
  one = by-sources t s.glyphs s.first

  abbrev other : Side
  other = by-sources u s.glyphs s.second

  widths-are : widths_differ s.direction s.glyphs one other ≡ glyphs_in t u s Clusters
  unfolding widths_differ glyphs_differ glyph_differs item_differs by-sources
  widths-are =
      through_same
      (λ g. records_differ s.direction g (get_or (items_from Clusters t s.glyphs (source_at t s.first Clusters)) g []) (get_or (items_from Clusters u s.glyphs (source_at u s.second Clusters)) g []))
      (glyph_differs s.direction t u (sources_of t u s Clusters)) s.glyphs 0
      (λ g h l.
      ap₂ (records_differ s.direction g) (item-get Clusters t s.glyphs (source_at t s.first Clusters) g (omega arith)) (item-get Clusters u s.glyphs (source_at u s.second Clusters) g (omega arith)))

  lists-are : lists_differ s.direction s.glyphs one other ≡ glyphs_in t u s Lists
  unfolding lists_differ glyphs_differ glyph_differs item_differs by-sources
  lists-are =
      through_same
      (λ g. list_differs s.direction g (get_or (items_from Lists t s.glyphs (source_at t s.first Lists)) g []) (get_or (items_from Lists u s.glyphs (source_at u s.second Lists)) g []))
      (glyph_differs s.direction t u (sources_of t u s Lists)) s.glyphs 0
      (λ g h l.
      ap₂ (list_differs s.direction g) (item-get Lists t s.glyphs (source_at t s.first Lists) g (omega arith)) (item-get Lists u s.glyphs (source_at u s.second Lists) g (omega arith)))

  by_parts : sides_differ s.direction s.glyphs one other ≡ machines_in t u s ++ (glyphs_in t u s Clusters ++ glyphs_in t u s Lists)
  unfolding sides_differ by-sources
  by_parts = ap₂ (λ (x y : List Difference). machines_in t u s ++ (x ++ y)) widths-are lists-are

  pub side-parts : machines_in t u s ++ (glyphs_in t u s Clusters ++ glyphs_in t u s Lists) ≡ sides_in t u s
  side-parts = sym by_parts ∙ ap₂ (λ (x y : Side). sides_differ s.direction s.glyphs x y) (sym (direction-is t s.glyphs s.first)) (sym (direction-is u s.glyphs s.second))

-- ---- what a good direction gives

rises_by : (t : List ℕ) (n at : ℕ) → OkSide n (by-sources t n at) → (g : ℕ) → g < n → Rising 0 (item_by Clusters t n (source_at t at Clusters) g)
unfolding by-sources
rises_by t n at w g l =
    subst (Rising 0) (item-get Clusters t n (source_at t at Clusters) g l)
    (all-at OkCluster (items_from Clusters t n (source_at t at Clusters)) [] g w.clusters (omega (arith, w.cluster-count))).2

all-rise : (kind : Kind) (t : List ℕ) (n at : ℕ) → OkSide n (by-sources t n at) → (g : ℕ) → g < n → Rises kind (item_by kind t n (source_at t at kind) g)
unfolding Rises
all-rise Clusters t n at w g l = rises_by t n at w g l
all-rise Lists t n at w g l = tt

module _ (t : List ℕ) (n at : ℕ) (good : GoodSide t n at) where
  pub place-clear : (p : ℕ) → p ≡ machine_place t at → machine_part t n p ≡ Clear
  place-clear p e = ap (machine_part t n) e ∙ machine-clear t at n good.clear.clear

  kind-sound : (kind : Kind) (s : Option Source) → (s ≡ source_at t at kind) × NearSource s → SoundSource t n s
  kind-sound kind s e = source_sound t n kind s e.1 (ap (source_fault t n kind) e.0 ∙ source_clear t at n good.clear.clear kind)

  kind-rises : (kind : Kind) (s : Option Source) → s ≡ source_at t at kind → AllRise kind t n s
  kind-rises kind s e =
      subst (AllRise kind t n) (sym e) (record { each = all-rise kind t n at (subst (OkSide n) (direction-is t n at) good.limits) })

-- the sources of two
pub comparable : (t u : List ℕ) (s : DirectionPair) (kind : Kind) (x y : Option Source) → GoodSides t u s → (x ≡ source_at t s.first kind) × NearSource x → (y ≡ source_at u s.second kind) × NearSource y
    → Comparable t u (record { kind = kind; glyphs = s.glyphs; first = x; second = y })
comparable t u s kind x y good a b = record {
  sound = record {
    short = good.first.clear.bytes;
    beside = good.second.clear.bytes;
    few = good.first.clear.few;
    first = kind-sound t s.glyphs s.first good.first kind x a;
    second = kind-sound u s.glyphs s.second good.second kind y b;
  };
  first = kind-rises t s.glyphs s.first good.first kind x a.0;
  second = kind-rises u s.glyphs s.second good.second kind y b.0;
}

-- ---- an accepted table's directions

module _ (t : List ℕ) (n : ℕ) (e : table_fault t n ≡ Clear) (bytes : Bytes t) where
  side-limits : (d : Direction) → OkSide n (direction_of t n (direction_at t d))
  unfolding meaning_of Accepted
  side-limits Horizontal = (valid-meaning t n bytes e).horizontal
  side-limits Vertical = (valid-meaning t n bytes e).vertical

  pub side-good : (d : Direction) (at : ℕ) → (at ≡ direction_at t d) × (at < 2 ^ 16) → GoodSide t n at
  side-good d at q = record {
    clear = side-clear t n e d at q.1 q.0;
    limits = subst (λ (k : ℕ). OkSide n (direction_of t n k)) (sym q.0) (side-limits d);
  }

module _ (t u : List ℕ) (n : ℕ) where
  -- horizontal, then vertical
  pub both-sides : (h v : DirectionPair) → h ≡ sides_of t u n Horizontal → v ≡ sides_of t u n Vertical
      → sides_in t u h ++ sides_in t u v ≡ differences (meaning_of t n) (meaning_of u n)
  unfolding differences meaning_of
  both-sides h v eh ev = ap₂ (λ (x y : DirectionPair). sides_in t u x ++ sides_in t u y) eh ev

  pub size_few : Bytes t → table_fault t n ≡ Clear → length (all_numbers (differences (meaning_of t n) (meaning_of u n))) < 2 ^ 30
  unfolding Accepted
  size_few bytes e =
      let xs : List Difference = differences (meaning_of t n) (meaning_of u n) in
      omega (arith, numbers-length xs, differences-few (meaning_of t n) (meaning_of u n) (valid-meaning t n bytes e))

  pub same_size : t ≡ u → 0 ≡ length (all_numbers (differences (meaning_of t n) (meaning_of u n)))
  unfolding all_numbers
  same_size e =
      ap (λ (xs : List Difference). length (all_numbers xs)) (sym (same-empty (meaning_of t n) (meaning_of u n) (ap (λ (x : List ℕ). meaning_of x n) e)))
