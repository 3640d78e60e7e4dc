-- The limits that a meaning's parts keep (document 01, "The sheet": the limits of "The table", S the least). They are those of N, of the machine, of
-- the width clusters and of the action lists; nothing here speaks of offsets or of a length in bytes.
use Rattle.std.specs.Prelude.{ℕ, zero, suc, ◌+◌, ◌*◌, ◌%◌, ◌^◌, ◌≤◌, ◌<◌, ◌≡◌, ◌⊎◌, List, [], ◌∷◌, length, get_or}
use Rattle.std.proofs.Math.Option.{Option, none, some}
use Rattle.fields.specs.Field.{u16_at}
use Rattle.encoding.specs.Codes.{All}
use Rattle.encoding.specs.Distinct.{distinct}
use Rattle.types.specs.declared.Entry.{Entry}
use Rattle.types.specs.declared.Limits.{Limits}
use Rattle.types.specs.declared.Pair.{Pair}
use Rattle.meaning.specs.Meaning.{Machine, Action, Side, Meaning}
use Rattle.meaning.specs.Discrete.{Entry-discrete}

-- ---- the machine

-- a cell leads to a row below the row count, and its flags are a 16-bit number
abbrev pub OkEntry : ℕ → Entry → Type 0
OkEntry rows e = (e.row < rows) × (e.flags < 2 ^ 16)

-- rows below t lead only below t; the cells stand row by row
abbrev pub Closed : ℕ → List Entry → ℕ → Type 0
Closed classes cells t = (k : ℕ) → k < t * classes → (get_or cells k (record { row = 0; flags = 0 })).row < t

pub record OkMachine (glyphs : ℕ) (m : Machine) : Type 0 where
  pub some-rows : 2 ≤ m.rows
  pub few-rows : m.rows ≤ 256
  pub some-classes : 4 ≤ m.classes
  pub few-classes : m.classes ≤ 255
  pub column-count : length m.columns ≡ glyphs
  pub columns : All (λ (c : ℕ). c < m.classes) m.columns
  pub cell-count : length m.cells ≡ m.rows * m.classes
  pub cells : All (OkEntry m.rows) m.cells
  pub least : (t : ℕ) → 2 ≤ t → t < m.rows → Closed m.classes m.cells t → ⊥
  pub few-entries : length (distinct Entry-discrete [] m.cells) ≤ 256

-- none, or one that keeps its limits
abbrev pub OkMaybe : ℕ → Option Machine → Type 0
OkMaybe glyphs none = Unit {0}
OkMaybe glyphs (some m) = OkMachine glyphs m

-- ---- width clusters

-- 16 em
abbrev pub em_limit : ℕ
em_limit = 16 * 65536

-- unlimited or not, and a priority 0 to 3; every other bit is zero
abbrev pub OkFlags : ℕ → Type 0
OkFlags f = (f < 0x2000) × (f % 0x1000 < 4)

abbrev pub OkLimits : Limits → Type 0
OkLimits l = (l.grow ≤ em_limit) × (l.shrink ≤ em_limit)

abbrev pub OkPair : Pair → Type 0
OkPair p = (p.class < 128) × OkLimits p.before × OkLimits p.after × OkFlags p.flags.grow × OkFlags p.flags.shrink

-- classes from c on, strictly rising
abbrev pub Rising : ℕ → List Pair → Type 0
Rising c [] = Unit {0}
Rising c (p ∷ ps) = (c ≤ p.class) × Rising (suc p.class) ps

-- the pairs of a cluster; no pairs stand for no cluster
abbrev pub OkCluster : List Pair → Type 0
OkCluster ps = (length ps ≤ 128) × All OkPair ps × Rising 0 ps

-- ---- action lists

-- an action's data by its type, glyphs below n
abbrev pub OkContent : ℕ → ℕ → List ℕ → Type 0
-- type 0: lower, upper and order, then 1 to 32 glyphs after their count
OkContent n zero d =
    (length d ≡ 12 + 2 * u16_at d 10) × (1 ≤ u16_at d 10) × (u16_at d 10 ≤ 32) × ((k : ℕ) → k < u16_at d 10 → u16_at d (12 + 2 * k) < n)
-- type 1: a glyph
OkContent n (suc zero) d = (length d ≡ 2) × (u16_at d 0 < n)
-- type 2: a threshold, the added glyph or 0xFFFF for none, and the substitute
OkContent n (suc (suc zero)) d = (length d ≡ 8) × ((u16_at d 4 < n) ⊎ (u16_at d 4 ≡ 0xFFFF)) × (u16_at d 6 < n)
-- type 3: nothing
OkContent n (suc (suc (suc zero))) d = length d ≡ 0
-- type 4: an axis and three Fixed
OkContent n (suc (suc (suc (suc zero)))) d = length d ≡ 16
-- type 5: flags, which are zero, and a glyph
OkContent n (suc (suc (suc (suc (suc zero))))) d = (length d ≡ 4) × (u16_at d 0 ≡ 0) × (u16_at d 2 < n)
-- there is no other
OkContent n (suc (suc (suc (suc (suc (suc k)))))) d = ⊥

abbrev pub OkAction : ℕ → Action → Type 0
OkAction n a = (a.class < 128) × (a.ty ≤ 5) × (length a.content ≤ 76) × All (λ (b : ℕ). b < 256) a.content × OkContent n a.ty a.content

-- the actions of a list; no actions stand for no list
abbrev pub OkActions : ℕ → List Action → Type 0
OkActions n l = (length l ≤ 64) × All (OkAction n) l

-- ---- the whole

pub record OkSide (glyphs : ℕ) (s : Side) : Type 0 where
  pub machine : OkMaybe glyphs s.machine
  pub cluster-count : length s.clusters ≡ glyphs
  pub clusters : All OkCluster s.clusters
  pub list_count : length s.lists ≡ glyphs
  pub lists : All (OkActions glyphs) s.lists

pub record Valid (m : Meaning) : Type 0 where
  pub some-glyph : 1 ≤ m.glyphs
  pub few-glyphs : m.glyphs ≤ 65535
  pub horizontal : OkSide m.glyphs m.horizontal
  pub vertical : OkSide m.glyphs m.vertical
