-- Refusals 4 to 8 return number and offset, the others the number with offset 0 (document 02, 4/14).
use Rattle.std.specs.Prelude.{ℕ, ◌≤◌, ◌≡◌, ◌⊎◌}
use Rattle.fields.specs.declared.Refusal.{Refusal}
use Rattle.fields.specs.Faults.{FirstFault}
use Rattle.fields.specs.Faults.{Clear, Bad}
use Rattle.fields.specs.Refusals.{number_of}

-- the number is 4 to 8, or the offset beside it is 0
abbrev pub Offset : ℕ → ℕ → Type 0
Offset number at = ((4 ≤ number) × (number ≤ 8)) ⊎ (at ≡ 0)

-- a fault of which this holds
pub data Placed : FirstFault → Type 0 where
  nowhere : Placed Clear
  somewhere : (r : Refusal) (at : ℕ) → Offset (number_of r) at → Placed (Bad r at)
