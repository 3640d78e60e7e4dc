-- Where the parts of a table's meaning stand in its bytes (document 01, "The table"): a direction's machine and lookups, a glyph's cluster and a glyph's
-- actions. Fields are read as if zeros followed the table.
use Rattle.std.specs.Prelude.{None, Option, Some}
use Rattle.std.specs.Prelude.{ℕ, ◌<◌, ◌^◌, ◌≡◌, List, cond, ltb}
use Rattle.types.specs.declared.Direction.{Direction}
use Rattle.meaning.specs.Ask.{Answer, nothing, number, both, entry, pair, act}
use Rattle.fields.specs.Faults.{Clear}
use Rattle.lookup.specs.Lookup.{lookup_fault}
use Rattle.lookup.specs.Find.{value_of}
use Rattle.lookup_find.specs.declared.Head.{Head}
use Rattle.lookup_find.specs.Halves.{head_at}
use Rattle.actions.specs.Actions.{action_at, spot_in_list, clipped}
use Rattle.lookup_targets.specs.declared.Kind.{Kind}
use Rattle.lookup_targets.specs.declared.Kind.TheVariants.{Lists}
use Rattle.lookup_targets.specs.declared.Source.{Source}
use Rattle.lookup_targets.specs.Values.{spot_of}
use Rattle.table_ask.specs.declared.Lookup.{Lookup}
use Rattle.table.specs.Table.{direction_at, machine_place, source_at}

-- the offset of a direction's machine
unfoldable pub machine_in : List ℕ → Direction → ℕ
machine_in t d = machine_place t (direction_at t d)

-- a lookup that is there
abbrev pub there : ℕ → ℕ → Head → Option Lookup
there at base head = Some (record { at = at; base = base; head = head })

-- a source with the head of its lookup
abbrev pub headed : List ℕ → Option Source → Option Lookup
headed t (Some s) = there s.at s.base (head_at t s.at)
headed t None = None

-- the lookup of a kind in a direction
unfoldable pub lookup_in : List ℕ → Direction → Kind → Option Lookup
lookup_in t d kind = headed t (source_at t (direction_at t d) kind)

-- a lookup by its numbers
abbrev pub lookup_by : ℕ → ℕ → ℕ → ℕ → Option Lookup
lookup_by at base format units = there at base (record { format = format; units = units })

-- what is kept of a lookup was read of this table
abbrev pub Readable : List ℕ → Option Lookup → Type 0
Readable t None = Unit {0}
Readable t (Some s) = (s.at < 2 ^ 32) × ((s.base < 2 ^ 16) × (s.head ≡ head_at t s.at))

-- the lookup has no fault for a font of n glyphs
abbrev pub Sound : List ℕ → ℕ → Option Lookup → Type 0
Sound t n None = Unit {0}
Sound t n (Some s) = (lookup_fault t n s.at ≡ Clear) × (n < 65536)

-- where a glyph's cluster or list stands, by the lookup of that kind
abbrev pub spot_by : List ℕ → ℕ → Kind → Option Lookup → ℕ → Option ℕ
spot_by t n kind None glyph = None
spot_by t n kind (Some s) glyph = spot_of kind s.base (value_of t n s.at glyph)

-- a spot by a plain number: past every place to which a base and a value lead, nowhere
abbrev pub spot_from : ℕ → Option ℕ
spot_from p = cond (ltb p (2 ^ 17)) (Some p) None

-- where a glyph's cluster or list stands in a direction
unfoldable pub spot_in : List ℕ → ℕ → Direction → Kind → ℕ → Option ℕ
spot_in t n d kind glyph = spot_by t n kind (lookup_in t d kind) glyph

-- where the action with a number stands, of the list at a spot
abbrev pub numbered : List ℕ → ℕ → Option ℕ → Option ℕ
numbered t k (Some p) = spot_in_list t p k
numbered t k None = None

-- where an action stands, by glyph and number
unfoldable pub action_spot : List ℕ → ℕ → Direction → ℕ → ℕ → Option ℕ
action_spot t n d glyph k = numbered t k (spot_in t n d Lists glyph)

-- what the action at a spot answers
abbrev pub action_here : List ℕ → Option ℕ → Answer
action_here t (Some p) = act (action_at t p)
action_here t None = nothing

-- an answer whose action has the first 76 bytes of its data; of an accepted table's answers each is as it was (`whole` of proofs/Laws.antt)
abbrev pub cut : Answer → Answer
cut (act a) = act (clipped a)
cut nothing = nothing
cut (number k) = number k
cut (both s c) = both s c
cut (entry e) = entry e
cut (pair p) = pair p
