-- The first fault of a table read with a glyph count (document 01, "Numbers of refusal", 1 to 8 and their order): the header's refusals by number, then each
-- direction, horizontal first: its three offsets, the machine, the width lookup and the clusters by glyph, the action lookup and the lists by glyph.
use Rattle.lookup_targets.specs.Values.{from_lookup}
use Rattle.std.specs.Prelude.{None, Option}
use Rattle.std.specs.Prelude.{ℕ, ◌+◌, cond, ◌≡◌, List, length, leb, eqb}
use Rattle.fields.specs.Faults.{FirstFault}
use Rattle.fields.specs.Faults.{Clear}
use Rattle.fields.specs.declared.Refusal.TheVariants.{TableLength, GlyphCount, Version}
use Rattle.fields.specs.Field.{u16_at, u32_at}
use Rattle.fields.specs.Faults.{◌then◌, rule, inside}
use Rattle.machine.specs.Machine.{machine_fault}
use Rattle.types.specs.declared.Direction.{Direction}
use Rattle.types.specs.declared.Direction.TheVariants.{Horizontal, Vertical}
use Rattle.lookup_targets.specs.declared.Kind.{Kind}
use Rattle.lookup_targets.specs.declared.Kind.TheVariants.{Clusters, Lists}
use Rattle.lookup_targets.specs.declared.Source.{Source}
use Rattle.lookup_targets.specs.Values.{values_fault}

-- a part at offset 0 is absent, and has no fault
unfoldable pub present : ℕ → FirstFault → FirstFault
present at fault = cond (eqb at 0) Clear fault

-- length, glyph count, version and format
unfoldable pub header_fault : List ℕ → ℕ → FirstFault
header_fault t n =
    rule (leb 10 (length t)) TableLength 0
    then rule (leb (length t) 32768) TableLength 0
    then rule (leb 1 n) GlyphCount 0
    then rule (leb n 65535) GlyphCount 0
    then rule (eqb (u32_at t 0) 0x00010000) Version 0
    then rule (eqb (u16_at t 4) 0) Version 0

-- where a direction's offsets stand, 0 for an absent one
abbrev pub direction_at : List ℕ → Direction → ℕ
direction_at t Horizontal = u16_at t 6
direction_at t Vertical = u16_at t 8

-- the three offsets of a direction at `at`: justClassTableOffset, wdcTableOffset and pcTableOffset, then at once the width lookup
abbrev pub machine_offset : List ℕ → ℕ → ℕ
machine_offset t at = u16_at t at

abbrev pub width_offset : List ℕ → ℕ → ℕ
width_offset t at = u16_at t (at + 2)

abbrev pub action_offset : List ℕ → ℕ → ℕ
action_offset t at = u16_at t (at + 4)

abbrev pub width_lookup : ℕ → ℕ
width_lookup at = at + 6

-- the offset of the machine of the direction at `at`; none has offset 0, and so has that of an absent direction
unfoldable pub machine_place : List ℕ → ℕ → ℕ
machine_place t at = cond (eqb at 0) 0 (machine_offset t at)

-- an action lookup stands at the offset that its values count from; offset 0 is no lookup
abbrev pub list_source : ℕ → Option Source
list_source offset = cond (eqb offset 0) None (from_lookup offset offset)

-- where the clusters, and the lists, of a direction that is there come from
abbrev pub source_there : List ℕ → ℕ → Kind → Option Source
source_there t at Clusters = from_lookup (width_lookup at) (width_offset t at)
source_there t at Lists = list_source (action_offset t at)

-- where those of the direction at `at` come from
unfoldable pub source_at : List ℕ → ℕ → Kind → Option Source
source_at t at kind = cond (eqb at 0) None (source_there t at kind)

unfoldable pub offsets_fault : List ℕ → ℕ → FirstFault
offsets_fault t at = inside t at 2 then inside t (at + 2) 2 then inside t (at + 4) 2

-- a machine's own fields stand 8 bytes past its offset
unfoldable pub machine_part : List ℕ → ℕ → ℕ → FirstFault
machine_part t n offset = present offset (machine_fault t n (offset + 8))

-- an action lookup stands at the offset that its values count from
unfoldable pub action_part : List ℕ → ℕ → ℕ → FirstFault
action_part t n offset = present offset (values_fault t n Lists offset offset)

unfoldable pub direction_fault : List ℕ → ℕ → ℕ → FirstFault
direction_fault t n at =
    present at
    (offsets_fault t at
    then machine_part t n (machine_offset t at)
    then values_fault t n Clusters (width_lookup at) (width_offset t at)
    then action_part t n (action_offset t at))

unfoldable pub table_fault : List ℕ → ℕ → FirstFault
table_fault t n = header_fault t n then direction_fault t n (direction_at t Horizontal) then direction_fault t n (direction_at t Vertical)

-- a table is accepted with N when no refusal from 1 to 8 bars it
unfoldable pub Accepted : List ℕ → ℕ → Type 0
Accepted t n = table_fault t n ≡ Clear
