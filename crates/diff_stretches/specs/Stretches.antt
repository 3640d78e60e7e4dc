-- What the glyphs have in two tables, by stretches of glyphs that have one place in each (document 02, 6/14).
use Rattle.std.specs.Prelude.{ℕ, ◌≤◌, ◌<◌, ◌^◌, ◌≡◌, List, length, Option, Some, None}
use Rattle.lookup.specs.declared.Cursor.{Cursor}
use Rattle.lookup.specs.Pass.{Serves}
use Rattle.lookup_runs.specs.declared.Run.{Run}
use Rattle.lookup_targets.specs.declared.Kind.{Kind}
use Rattle.write_item.specs.Items.{Item, no_item, item_at}
use Rattle.lookup_targets.specs.declared.Source.{Source}
use Rattle.write_glyphs.specs.Places.{glyph_item, SoundSource, run_place}
use Rattle.diff_stretches.specs.declared.Sources.{Sources}
use Rattle.diff_stretches.specs.declared.Both.{Both}
use Rattle.diff_stretches.specs.declared.GlyphStretch.{GlyphStretch}

-- what a glyph of n has
abbrev pub item_by : (kind : Kind) → List ℕ → ℕ → Option Source → ℕ → Item kind
item_by kind t n (Some s) glyph = glyph_item kind t n s.at s.base glyph
item_by kind t n None glyph = no_item kind

abbrev pub base_of : Option Source → ℕ
base_of (Some s) = s.base
base_of None = 0

-- a cursor serves the glyphs from `glyph` on
abbrev pub ServesBy : List ℕ → Option Source → ℕ → Cursor → Type 0
ServesBy t (Some s) glyph c = Serves t s.at glyph c
ServesBy t None glyph c = Unit {0}

-- a run tells what the glyphs from `glyph` on and before its end have, and its cursor serves those after it
pub record RunTells (kind : Kind) (t : List ℕ) (n : ℕ) (source : Option Source) (glyph : ℕ) (r : Run) : Type 0 where
  pub near : r.place < 2 ^ 41
  pub ends : glyph ≤ r.until
  pub items : (x : ℕ) → glyph ≤ x → x < r.until → x < n
      → item_at kind t (run_place kind t (base_of source) r.from r.place r.array x) ≡ item_by kind t n source x
  pub serves : ServesBy t source r.until r.cursor

-- a run of each table does
pub record BothTell (t u : List ℕ) (s : Sources) (glyph : ℕ) (r : Both Run) : Type 0 where
  pub first : RunTells s.kind t s.glyphs s.first glyph r.first
  pub second : RunTells s.kind u s.glyphs s.second glyph r.second

-- both tables have at most 32,768 bytes, and sources that a pass can go over
pub record BothSound (t u : List ℕ) (s : Sources) : Type 0 where
  pub short : length t ≤ 2 ^ 15
  pub beside : length u ≤ 2 ^ 15
  pub few : s.glyphs < 2 ^ 16
  pub first : SoundSource t s.glyphs s.first
  pub second : SoundSource u s.glyphs s.second

-- the glyphs of a run from `glyph` on and before e have one place
pub record Even (r : Run) (glyph e : ℕ) : Type 0 where
  pub more : glyph < e
  pub most : e ≤ r.until
  pub same : (kind : Kind) (t : List ℕ) (base x : ℕ) → glyph ≤ x → x < e
      → run_place kind t base r.from r.place r.array x ≡ run_place kind t base r.from r.place r.array glyph

-- what the glyphs from `glyph` on and before the stretch's end have stands at its places, and its runs tell what those after them have
pub record Splits (t u : List ℕ) (s : Sources) (glyph : ℕ) (r : GlyphStretch) : Type 0 where
  pub more : glyph < r.end
  pub most : r.end ≤ s.glyphs
  pub first : (x : ℕ) → glyph ≤ x → x < r.end → item_by s.kind t s.glyphs s.first x ≡ item_at s.kind t r.places.first
  pub second : (x : ℕ) → glyph ≤ x → x < r.end → item_by s.kind u s.glyphs s.second x ≡ item_at s.kind u r.places.second
  pub runs : BothTell t u s r.end r.runs
