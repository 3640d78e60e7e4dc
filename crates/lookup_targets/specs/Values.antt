-- What the values of a direction's two lookups lead to (document 01, "The table"): a width value to a cluster, an action value to an action list; the first
-- fault of the lookup and of all that its values lead to, glyph by glyph; and what each glyph has.
use Rattle.std.specs.Prelude.{None, Option, Some}
use Rattle.std.specs.Prelude.{ℕ, zero, suc, ◌+◌, ◌-◌, ◌*◌, ◌/◌, ◌%◌, ◌≤◌, ◌<◌, ◌^◌, min, max, cond, ◌≡◌, List, [], ◌⊎◌, leb, eqb, get_or, set}
use Rattle.fields.specs.Faults.{FirstFault}
use Rattle.fields.specs.Faults.{Clear}
use Rattle.fields.specs.Field.{u16_at}
use Rattle.fields.specs.Faults.{◌then◌}
use Rattle.fields.specs.Walk.{each}
use Rattle.types.specs.declared.Pair.{Pair}
use Rattle.meaning.specs.Meaning.{Action}
use Rattle.lookup.specs.Lookup.{lookup_fault}
use Rattle.lookup.specs.Find.{value_of}
use Rattle.cluster.specs.Faults.{cluster_fault}
use Rattle.cluster.specs.Pairs.{cluster_at}
use Rattle.actions.specs.Faults.{list_fault}
use Rattle.actions.specs.Actions.{list_at}
use Rattle.actions.specs.Notes.{Passed}
use Rattle.lookup_targets.specs.declared.Kind.{Kind}
use Rattle.lookup_targets.specs.declared.Kind.TheVariants.{Clusters, Lists}
use Rattle.lookup_targets.specs.declared.Source.{Source}

-- the source that a lookup at `at` is, whose values are offsets from `base`
abbrev pub from_lookup : ℕ → ℕ → Option Source
from_lookup at base = Some (record { at = at; base = base })

-- where the cluster or the list stands that a value leads to, an offset from `base`: a width value of 0 is an offset like any other, an action value of 0 means none
abbrev pub spot_of : Kind → ℕ → Option ℕ → Option ℕ
spot_of kind base None = None
spot_of Clusters base (Some v) = Some (base + v)
spot_of Lists base (Some v) = cond (eqb v 0) None (Some (base + v))

-- the first fault of the cluster or the list at `at`
abbrev pub item_fault : List ℕ → ℕ → Kind → ℕ → FirstFault
item_fault t glyphs Clusters at = cluster_fault t at
item_fault t glyphs Lists at = list_fault t glyphs at

abbrev pub spot_fault : List ℕ → ℕ → Kind → Option ℕ → FirstFault
spot_fault t glyphs kind (Some p) = item_fault t glyphs kind p
spot_fault t glyphs kind None = Clear

-- the first fault of what the value that stands at `p` leads to
unfoldable pub place_fault : List ℕ → ℕ → Kind → ℕ → ℕ → FirstFault
place_fault t glyphs kind base p = spot_fault t glyphs kind (spot_of kind base (Some (u16_at t p)))

-- the first fault of what a glyph's value leads to; the lookup stands at `at`
unfoldable pub target_fault : List ℕ → ℕ → Kind → ℕ → ℕ → ℕ → FirstFault
target_fault t glyphs kind at base glyph = spot_fault t glyphs kind (spot_of kind base (value_of t glyphs at glyph))

-- what the glyphs from one on lead to
abbrev pub from_glyph : List ℕ → ℕ → Kind → ℕ → ℕ → ℕ → FirstFault
from_glyph t glyphs kind at base glyph = each (target_fault t glyphs kind at base) (λ g. g + 1) (glyphs - glyph) glyph

-- the lookup, then what its values lead to, glyphs upward
unfoldable pub values_fault : List ℕ → ℕ → Kind → ℕ → ℕ → FirstFault
values_fault t glyphs kind at base = lookup_fault t glyphs at then each (target_fault t glyphs kind at base) (λ g. g + 1) glyphs 0

-- the same of a source, which has no fault where there is no lookup
abbrev pub source_fault : List ℕ → ℕ → Kind → Option Source → FirstFault
source_fault t glyphs kind (Some s) = values_fault t glyphs kind s.at s.base
source_fault t glyphs kind None = Clear

-- its lookup, and what the values count from, stand where 16-bit offsets lead
abbrev pub NearSource : Option Source → Type 0
NearSource (Some s) = (s.at < 2 ^ 17) × (s.base < 2 ^ 16)
NearSource None = Unit {0}

-- the cluster, and the action list, of a place; none where there is none
abbrev pub cluster_here : List ℕ → Option ℕ → List Pair
cluster_here t (Some p) = cluster_at t p
cluster_here t None = []

abbrev pub list_here : List ℕ → Option ℕ → List Action
list_here t (Some p) = list_at t p
list_here t None = []

-- what a note tells of a cluster, and of a list
abbrev pub NoteTells : Kind → ℕ → Type 0
NoteTells Clusters note = note / 2 % 2 ≡ 1
NoteTells Lists note = note % 2 ≡ 1

-- a note that tells it besides what it told
abbrev pub besides : Kind → ℕ → ℕ
besides Clusters note = note / 4 * 4 + (2 + note % 2)
besides Lists note = note / 2 * 2 + 1

-- the notes of clusters, lists and actions, one for each position of the table, are true
pub record Judged (t : List ℕ) (glyphs : ℕ) (judged : List ℕ) : Type 0 where
  pub clear : (kind : Kind) (i : ℕ) → NoteTells kind (get_or judged i 0) → item_fault t glyphs kind i ≡ Clear
  pub passed : Passed t glyphs judged

-- the notes in `judged` tell that what the value at `place` leads to has no fault
pub record Told (t : List ℕ) (kind : Kind) (base : ℕ) (judged : List ℕ) (place : ℕ) : Type 0 where
  pub clear : (glyphs : ℕ) → Judged t glyphs judged → place_fault t glyphs kind base place ≡ Clear

-- the number of the first value of which the notes tell nothing, from number `from` on, of `count` values that stand from `place` on
abbrev pub FirstUntold : List ℕ → Kind → ℕ → List ℕ → ℕ → ℕ → ℕ → Option ℕ → Type 0
FirstUntold t kind base judged place from count (Some k) = (from ≤ k) × (k < count) × ((i : ℕ) → from ≤ i → i < k → Told t kind base judged (place + 2 * i))
FirstUntold t kind base judged place from count None = (i : ℕ) → from ≤ i → i < count → Told t kind base judged (place + 2 * i)

-- so many values from each position on, as `ahead` tells, lead to nothing with a fault
pub record Ahead (t : List ℕ) (glyphs : ℕ) (kind : Kind) (base : ℕ) (ahead : List ℕ) : Type 0 where
  pub clear : (p : ℕ) → each (place_fault t glyphs kind base) (λ q. q + 2) (get_or ahead p 0) p ≡ Clear

-- A note at `place` of `count` values from there on: as many as a byte tells, where that is more than it told. It is made at each of the values, of which ever
-- fewer are left; or at the first, at the one to which what was told there leads, and so on to the end, in no more turns than there are values.
unfoldable pub note_at : ℕ → ℕ → List ℕ → List ℕ
note_at place count ahead = cond (leb (min count 255) (get_or ahead place 0)) ahead (set ahead place (min count 255))

unfoldable pub note_each : ℕ → ℕ → List ℕ → List ℕ
note_each place zero ahead = ahead
note_each place (suc left) ahead = note_each (place + 2) left (note_at place (suc left) ahead)

unfoldable pub note_along : ℕ → ℕ → ℕ → List ℕ → List ℕ
note_along zero place left ahead = ahead
note_along (suc turns) place left ahead =
    cond (eqb left 0) ahead
    (note_along turns (place + 2 * min (max 1 (get_or ahead place 0)) left) (left - min (max 1 (get_or ahead place 0)) left) (note_at place left ahead))

-- what noting of `count` values that stand from `place` on makes of such a list: it tells what it told, or at one of them no more than are left of them
pub record Noted (place count : ℕ) (before after : List ℕ) : Type 0 where
  pub at : (p : ℕ)
      → (get_or after p 0 ≡ get_or before p 0) ⊎ ((left : ℕ) × (left ≤ count) × (p + 2 * left ≡ place + 2 * count) × (get_or after p 0 ≤ left))

-- a glyph's width records and a glyph's actions
unfoldable pub cluster_of : List ℕ → ℕ → ℕ → ℕ → ℕ → List Pair
cluster_of t glyphs at base glyph = cluster_here t (spot_of Clusters base (value_of t glyphs at glyph))

unfoldable pub list_of : List ℕ → ℕ → ℕ → ℕ → ℕ → List Action
list_of t glyphs at base glyph = list_here t (spot_of Lists base (value_of t glyphs at glyph))
