-- A component list as a stretch of the table (document 01, "The table": handed back as that very stretch; empty, never a refusal, where there is none).
use Rattle.std.specs.Prelude.{None, Option, Some}
use Rattle.std.specs.Prelude.{Ok, Err}
use Rattle.std.specs.Prelude.{ℕ, ◌+◌, ◌-◌, cond, List, [], eqb, take, drop}
use Rattle.fields.specs.Faults.{FirstFault}
use Rattle.fields.specs.Faults.{Clear, Bad}
use Rattle.types.specs.declared.Direction.{Direction}
use Rattle.meaning.specs.Ask.{Answer, nothing, number, both, entry, pair, act}
use Rattle.answers.specs.Says.{Reply, refused, given}
use Rattle.actions.specs.declared.Stretch.{Stretch}
use Rattle.actions.specs.Actions.{components_at}
use Rattle.table.specs.Table.{table_fault}
use Rattle.table_ask.specs.Places.{action_spot}

abbrev pub empty_stretch : Stretch
empty_stretch = record { from = 0; to = 0 }

-- the glyphs of the action at a spot, an empty stretch where it is not of type 0
abbrev pub components_here : List ℕ → Option ℕ → Stretch
components_here t (Some p) = components_at t p
components_here t None = empty_stretch

-- a table with a fault has no component list
abbrev pub unless_fault : FirstFault → Stretch → Stretch
unless_fault (Ok u) s = s
unless_fault (Err f) s = empty_stretch

-- the stretch of the type 0 action that direction, glyph and number name in an accepted table, else the empty one
unfoldable pub components_of : List ℕ → ℕ → Direction → ℕ → ℕ → Stretch
components_of t n d glyph k = unless_fault (table_fault t n) (components_here t (action_spot t n d glyph k))

-- the bytes of a stretch of the table
unfoldable pub stretch : List ℕ → Stretch → List ℕ
stretch t s = take (s.to - s.from) (drop s.from t)

-- where a stretch lies in memory: in the table's own block, so many bytes past the table's start
abbrev pub place_in : ℕ × ℕ → Stretch → ℕ × ℕ
place_in p s = (p.0, s.from + p.1)

-- the component list by what the meaning has: a type 0 action's data after lower, upper, order and count; that `components_of` is this stretch is `components-mean` of
-- proofs/Laws.antt
abbrev pub components_in : Answer → List ℕ
components_in (act a) = cond (eqb a.ty 0) (drop 12 a.content) []
components_in nothing = []
components_in (number k) = []
components_in (both s c) = []
components_in (entry e) = []
components_in (pair p) = []

abbrev pub listed_components : Reply → List ℕ
listed_components (given a) = components_in a
listed_components (refused r at) = []
