-- What a test's answer says.
use Rattle.std.specs.Prelude.{Bool, true, false}

-- a bool that says whether P holds
abbrev pub Says : Bool → Type 0 → Type 0
Says true P = P
Says false P = P → ⊥
