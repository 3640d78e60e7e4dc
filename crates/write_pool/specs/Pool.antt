-- Sections 5 and 6, or 7 and 8, of a sheet for a table (document 01, "The sheet"): the distinct clusters or lists of the glyphs, and the runs of glyphs
-- that have the same one.
use Rattle.lookup_targets.specs.Values.{from_lookup}
use Rattle.std.specs.Prelude.{ℕ, ◌+◌, ◌≤◌, ◌<◌, ◌^◌, ◌≡◌, List, [], ◌∷◌, ◌++◌, length, Option, Some, None}
use Rattle.std.specs.Coded.{×_prop, Unit-prop, le_prop}
use Rattle.std.proofs.lemmas.List.Edits.{sets}
use Rattle.encoding.specs.Codes.{All, counted}
use Rattle.encoding.specs.Sections.{number_run_section, pool}
use Rattle.lookup_targets.specs.declared.Kind.{Kind}
use Rattle.write_item.specs.Items.{Item, no_item, item-discrete, item_code}
use Rattle.write_numbers.specs.Numbered.{placed}
use Rattle.lookup_targets.specs.declared.Source.{Source}
use Rattle.write_glyphs.specs.declared.GlyphLookup.{GlyphLookup}
use Rattle.write_glyphs.specs.Places.{items_from, SoundSource}
use Rattle.write_runs.specs.Spread.{spread}

-- the two sections for what n glyphs have of a kind
unfoldable pub pool_bytes : (kind : Kind) → List ℕ → ℕ → Option Source → List ℕ
pool_bytes kind t n source = pool (item-discrete kind) (item_code kind) (no_item kind) (items_from kind t n source)

-- the same from a numbering: the items that stand at `firsts`, and the runs of the glyphs' numbers, which are given by stretches, none being 0
unfoldable pub sections : (kind : Kind) → List ℕ → List ℕ → List ℕ → List ℕ → List ℕ
sections kind t firsts ends nums = counted (item_code kind) (placed kind t firsts) ++ number_run_section (spread 0 ends nums)

-- written in at most 5,380 bytes, as every item of an accepted table is: the longest is a list of 64 actions with 76 bytes of data each
abbrev pub Short : (kind : Kind) → Item kind → Type 0
Short kind x = length (item_code kind x) ≤ 5380

pub Short-prop : (kind : Kind) (xs : List (Item kind)) → IsProp (All (Short kind) xs)
Short-prop kind [] = Unit-prop
Short-prop kind (x ∷ xs) = ×_prop le_prop (Short-prop kind xs)

-- a table and a source in it, such that what n glyphs have can be numbered and written
pub record Numberable (kind : Kind) (t : List ℕ) (n : ℕ) (source : Option Source) : Type 0 where
  pub bytes : length t ≤ 2 ^ 15
  pub few : n < 2 ^ 16
  pub sound : SoundSource t n source
  pub short : All (Short kind) (items_from kind t n source)

-- the two sections stored from `to` on, up to r
pub record PlacedSections (kind : Kind) (t : List ℕ) (n : ℕ) (source : Option Source) (out₀ out : List ℕ) (to r : ℕ) : Type 0 where
  pub end : r ≡ to + length (pool_bytes kind t n source)
  pub near : r < to + 2 ^ 29
  pub bytes : out ≡ sets out₀ to (pool_bytes kind t n source)

-- the same with rooms for so many stretches; or nothing is stored, and the glyphs are more than the rooms hold stretches
pub record Tried (kind : Kind) (t : List ℕ) (n : ℕ) (source : Option Source) (room : ℕ) (out₀ out : List ℕ) (to : ℕ) (r : Option ℕ) : Type 0 where
  pub full : r ≡ None → (out ≡ out₀) × (room < n)
  pub done : (end : ℕ) → r ≡ Some end → PlacedSections kind t n source out₀ out to end

-- ---- the same of a lookup as the code holds it

abbrev pub source_of : GlyphLookup → Option Source
source_of l = from_lookup l.at l.base

abbrev pub items_by : (l : GlyphLookup) → List (Item l.kind)
items_by l = items_from l.kind l.table.now l.glyphs (source_of l)

abbrev pub PlacedBy : GlyphLookup → List ℕ → List ℕ → ℕ → ℕ → Type 0
PlacedBy l out₀ out to r = PlacedSections l.kind l.table.now l.glyphs (source_of l) out₀ out to r

abbrev pub TriedBy : GlyphLookup → ℕ → List ℕ → List ℕ → ℕ → Option ℕ → Type 0
TriedBy l room out₀ out to r = Tried l.kind l.table.now l.glyphs (source_of l) room out₀ out to r
