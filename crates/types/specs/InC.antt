-- A direction as a number, for programs in C and other languages.
use Rattle.std.specs.Prelude.{ℕ, cond, eqb}
use Rattle.types.specs.declared.Direction.{Direction}
use Rattle.types.specs.declared.Direction.TheVariants.{Horizontal, Vertical}

-- 0 is horizontal, any other number vertical
abbrev pub direction_in : ℕ → Direction
direction_in n = cond (eqb n 0) Horizontal Vertical
