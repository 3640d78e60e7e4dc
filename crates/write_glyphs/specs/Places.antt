-- What each glyph has of a kind, a cluster or an action list, and where it stands (document 01, "The sheet": the width records of every glyph, every
-- glyph's actions).
use Rattle.lookup_targets.specs.Values.{from_lookup}
use Rattle.std.specs.Prelude.{None, Option, Some}
use Rattle.std.specs.Prelude.{ℕ, ◌+◌, ◌-◌, ◌*◌, ◌≤◌, ◌<◌, ◌^◌, min, ◌≡◌, Bool, cond, List, ◌∷◌, ◌++◌, ltb, length, get_or, take, replicate}
use Rattle.fields.specs.Faults.{Clear}
use Rattle.fields.specs.Field.{u16_at}
use Rattle.encoding.specs.Distinct.{distinct, numbers}
use Rattle.encoding.specs.Upto.{from, upto}
use Rattle.lookup.specs.Lookup.{lookup_fault}
use Rattle.lookup.specs.Find.{value_of}
use Rattle.lookup_targets.specs.declared.Kind.{Kind}
use Rattle.lookup_targets.specs.Values.{spot_of}
use Rattle.write_item.specs.Items.{Item, no_item, item_at, item-discrete}
use Rattle.write_numbers.specs.Numbered.{placed, distinct_of, Kept, Seen, KnownAs, Numbered}
use Rattle.write_runs.specs.Spread.{spread, Rise}
use Rattle.write_glyphs.specs.declared.Pass.{Pass}
use Rattle.lookup_targets.specs.declared.Source.{Source}

-- the item of a place; none where there is none
abbrev pub item_here : (kind : Kind) → List ℕ → Option ℕ → Item kind
item_here kind t (Some p) = item_at kind t p
item_here kind t None = no_item kind

-- what a glyph of n has by the lookup at `at`, whose values are offsets from `base`
abbrev pub glyph_item : (kind : Kind) → List ℕ → ℕ → ℕ → ℕ → ℕ → Item kind
glyph_item kind t n at base glyph = item_here kind t (spot_of kind base (value_of t n at glyph))

-- what each of n glyphs has: by a lookup, or none where there is no lookup
unfoldable pub items_from : (kind : Kind) → List ℕ → ℕ → Option Source → List (Item kind)
items_from kind t n (Some s) = upto (glyph_item kind t n s.at s.base) n
items_from kind t n None = replicate n (no_item kind)

-- such a lookup is without fault, and it and its base stand near
abbrev pub SoundSource : List ℕ → ℕ → Option Source → Type 0
SoundSource t n (Some s) = (s.at < 2 ^ 32) × (s.base < 2 ^ 16) × (lookup_fault t n s.at ≡ Clear)
SoundSource t n None = Unit {0}

-- a place as a 16-bit number: 65,535, where a table of at most 32,768 bytes has nothing, stands for none and for what is further on
abbrev pub spot_place : Option ℕ → ℕ
spot_place (Some p) = min p 65535
spot_place None = 65535

-- the place that the value at `p` leads to
unfoldable pub value_place : Kind → List ℕ → ℕ → ℕ → ℕ
value_place kind t base p = spot_place (spot_of kind base (Some (u16_at t p)))

-- the place of what a glyph has that stands in a run, which begins at the glyph `start` and whose values stand at `place`, or before it and has none
unfoldable pub run_place : Kind → List ℕ → ℕ → ℕ → ℕ → Bool → ℕ → ℕ
run_place kind t base start place array glyph =
    cond (ltb glyph start) 65535 (value_place kind t base (cond array (place + 2 * (glyph - start)) place))

-- places that are noted with one number have one item
pub record Agree (kind : Kind) (t seen : List ℕ) : Type 0 where
  pub same : (p q number : ℕ) → KnownAs t seen p number → KnownAs t seen q number → item_at kind t p ≡ item_at kind t q

-- the item at a place is known to have this number: it is that of a place where the number is noted
pub record HasNumber (kind : Kind) (t seen : List ℕ) (place number : ℕ) : Type 0 where
  pub other : ℕ
  pub item : item_at kind t place ≡ item_at kind t other
  pub noted : KnownAs t seen other number

-- n values from `place` on lead to the item that is known to have this number
abbrev pub Lead : Kind → List ℕ → ℕ → List ℕ → ℕ → ℕ → ℕ → Type 0
Lead kind t base seen place number n = (i : ℕ) → i < n → HasNumber kind t seen (value_place kind t base (place + 2 * i)) number

-- n values from `place` on lead to one item
abbrev pub LeadToOne : Kind → List ℕ → ℕ → ℕ → ℕ → Type 0
LeadToOne kind t base place n = (i : ℕ) → i < n → item_at kind t (value_place kind t base (place + 2 * i)) ≡ item_at kind t (value_place kind t base place)

-- what stands for a position is a number of values from there on that lead to one item
pub record OneItem (kind : Kind) (t : List ℕ) (base : ℕ) (alike : List ℕ) : Type 0 where
  pub same : (p : ℕ) → LeadToOne kind t base p (get_or alike p 0)

-- what `glyph` has goes up to the glyph e, in a run up to `until` or before it: the glyphs between have its place, or an item that is known to have its number
pub record AlikeUpto (kind : Kind) (t : List ℕ) (base start until place : ℕ) (array : Bool) (glyph : ℕ) (seen : List ℕ) (number e : ℕ) : Type 0 where
  pub more : glyph < e
  pub most : e ≤ until
  pub same : (x : ℕ) → glyph < x → x < e → (run_place kind t base start place array x ≡ run_place kind t base start place array glyph → ⊥)
      → HasNumber kind t seen (run_place kind t base start place array x) number

-- rooms for as many stretches, and as many distinct items, as `ends` has elements
pub record PassRooms (ends nums firsts others slots : ℕ) : Type 0 where
  pub each : ends ≤ nums
  pub distinct : ends ≤ firsts
  pub listed : ends ≤ others
  pub hashes : 0 < slots

-- where a pass stands over n glyphs, which have the items `item 0`, `item 1` and so on: those below g are passed. The first m stretches have their numbers, and
-- the first k of `firsts` are the places of their distinct items; what is left adds to these, and to the numbers, what all n glyphs come to
pub record PassStands (kind : Kind) (t : List ℕ) (item : ℕ → Item kind) (n : ℕ) (ends nums firsts others slots seen : List ℕ) (m k g : ℕ) : Type 0 where
  pub rise : Rise 0 (take m ends) g
  pub most : g ≤ n
  pub fits : m ≤ length ends
  pub few : k ≤ m
  pub last : 0 < m → get_or nums (m - 1) 0 ≤ k
  pub left : distinct (item-discrete kind) (no_item kind ∷ placed kind t (take k firsts)) (from item (n - g) g) ≡ distinct_of kind (upto item n)
  pub done : spread 0 (take m ends) (take m nums) ++ numbers (item-discrete kind) (distinct_of kind (upto item n)) (from item (n - g) g)
      ≡ numbers (item-discrete kind) (distinct_of kind (upto item n)) (upto item n)
  pub kept : Kept kind t firsts others slots k
  pub known : Seen kind t firsts seen k

-- how far a pass over the lookup at `at` came: it found stretches of glyphs that have the same item, up to a glyph. It stops before the last glyph only
-- where the room for stretches is full; where it came to the last, what the glyphs have is numbered
pub record PassedOver (kind : Kind) (t : List ℕ) (n at base : ℕ) (ends nums firsts : List ℕ) (pass : Pass) : Type 0 where
  pub rise : Rise 0 (take pass.stretches ends) pass.glyph
  pub most : pass.glyph ≤ n
  pub fits : pass.stretches ≤ length ends
  pub few : pass.items ≤ pass.stretches
  pub stops : pass.glyph < n → pass.stretches ≡ length ends
  pub numbered : n ≤ pass.glyph
      → Numbered kind t (items_from kind t n (from_lookup at base)) (spread 0 (take pass.stretches ends) (take pass.stretches nums)) firsts pass.items
