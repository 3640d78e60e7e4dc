-- The order of faults (document 01, "Numbers of refusal"): which parts of a table are judged, one after the other, and which one gives the refusal.
use Rattle.std.specs.Prelude.{ℕ, ◌+◌, ◌≤◌, ◌<◌, ◌≡◌, ◌⊎◌, List, [], ◌∷◌, length}
use Rattle.fields.specs.declared.Refusal.{Refusal}
use Rattle.fields.specs.declared.Refusal.TheVariants.{TableLength, GlyphCount, Version, Outside}
use Rattle.fields.specs.Faults.{FirstFault}
use Rattle.fields.specs.Faults.{Clear, Bad}
use Rattle.fields.specs.Field.{u16_at, u32_at}
use Rattle.fields.specs.Refusals.{number_of}
use Rattle.fields.specs.Faults.{inside}
use Rattle.lookup_targets.specs.declared.Kind.TheVariants.{Clusters}
use Rattle.lookup_targets.specs.Values.{values_fault}
use Rattle.table.specs.Table.{header_fault, machine_offset, width_offset, action_offset, width_lookup, machine_part, action_part, direction_fault}

-- one of the faults is the refusal r at `at`, and those ahead of it are clear
abbrev pub FirstIs : List FirstFault → Refusal → ℕ → Type 0
FirstIs [] r at = ⊥
FirstIs (f ∷ fs) r at = (f ≡ Bad r at) ⊎ ((f ≡ Clear) × FirstIs fs r at)

-- none of them is a fault
abbrev pub NoFault : List FirstFault → Type 0
NoFault [] = Unit {0}
NoFault (f ∷ fs) = (f ≡ Clear) × NoFault fs

-- the parts of a table: its header, then the horizontal and the vertical direction, whose offsets stand at 6 and 8
abbrev pub table_parts : List ℕ → ℕ → List FirstFault
table_parts t n = header_fault t n ∷ direction_fault t n (u16_at t 6) ∷ direction_fault t n (u16_at t 8) ∷ []

-- the parts of a direction: its three offsets, the machine, the width lookup with the clusters, the action lookup with the lists
abbrev pub direction_parts : List ℕ → ℕ → ℕ → List FirstFault
direction_parts t n at =
    inside t at 2
    ∷ inside t (at + 2) 2
    ∷ inside t (at + 4) 2
    ∷ machine_part t n (machine_offset t at)
    ∷ values_fault t n Clusters (width_lookup at) (width_offset t at)
    ∷ action_part t n (action_offset t at)
    ∷ []

-- one of the glyphs below n is the first that `one` finds a fault with, the refusal r at `at`
abbrev pub FirstGlyph : (ℕ → FirstFault) → ℕ → Refusal → ℕ → Type 0
FirstGlyph one n r at = (g : ℕ) × (g < n) × ((h : ℕ) → h < g → one h ≡ Clear) × (one g ≡ Bad r at)

-- a header without fault
pub record GoodHeader (t : List ℕ) (n : ℕ) : Type 0 where
  pub long : 10 ≤ length t
  pub short : length t ≤ 32768
  pub some : 1 ≤ n
  pub few : n ≤ 65535
  pub version : u32_at t 0 ≡ 0x00010000
  pub format : u16_at t 4 ≡ 0

-- a header with a fault, by the order of the refusals' numbers: each is given only where those before it are not
pub data BadHeader (t : List ℕ) (n : ℕ) : Refusal → Type 0 where
  length-fails : (length t < 10) ⊎ (32768 < length t) → BadHeader t n TableLength
  count-fails : 10 ≤ length t → length t ≤ 32768 → (n < 1) ⊎ (65535 < n) → BadHeader t n GlyphCount
  version-fails : 10 ≤ length t → length t ≤ 32768 → 1 ≤ n → n ≤ 65535 → (u32_at t 0 ≡ 0x00010000 → ⊥) ⊎ (u16_at t 4 ≡ 0 → ⊥) → BadHeader t n Version

-- a part's fault: none, refusal 4, or its own refusal r
pub data Only (r : Refusal) : FirstFault → Type 0 where
  clear : Only r Clear
  outside : (at : ℕ) → Only r (Bad Outside at)
  own : (at : ℕ) → Only r (Bad r at)

-- a table's fault: none; one of its header, 1 to 3, with offset 0; or one of its parts, 4 to 8
pub data OfTable : FirstFault → Type 0 where
  of_none : OfTable Clear
  of-header : (r : Refusal) → number_of r ≤ 3 → OfTable (Bad r 0)
  of_part : (r : Refusal) (at : ℕ) → 4 ≤ number_of r → number_of r ≤ 8 → OfTable (Bad r at)
