-- A glyph's element out of a section of runs (document 01, "The sheet", sections 2, 6 and 8).
use Rattle.std.specs.Prelude.{ℕ, ◌+◌, ◌≡◌, List, [], ◌∷◌, Option, Some, None}
use Rattle.std.proofs.Math.Logic.{ite}
use Rattle.std.proofs.Math.Decide.{dec_le}
use Rattle.fields.specs.Field.{u32_at}
use Rattle.encoding.specs.Codes.{items_at}
use Rattle.encoding.specs.Runs.{Run}
use Rattle.sheet_sections.specs.Section.{HasItems}
use Rattle.sheet_sections.specs.RunSection.{run_at}

-- the value of the run that an index is in; runs rise, so that none is looked for past one that begins after it
abbrev pub value_at : ℕ → List (Run ℕ) → Option ℕ
value_at i [] = None
value_at i (r ∷ rs) = ite (dec_le r.first i) (ite (dec_le i r.last) (Some r.value) (value_at i rs)) None

-- the value of an index in the section of runs at a place, if it is there
abbrev pub ValueIn : List ℕ → ℕ → ℕ → Option ℕ → Type 0
ValueIn bytes at i r = HasItems 6 bytes at → r ≡ value_at i (items_at run_at 6 bytes (at + 4) (u32_at bytes at))
