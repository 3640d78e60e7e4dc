-- Distances in ems and in points (document 01, "Numbers"; of "Sharing the gap" a side's factor).
-- A Fixed number is 32 bits; 65,536 is one em. A unit is 1/65,536 point, so limit × size / 65,536 is a number of units.
use Rattle.std.specs.Prelude.{ℕ, ◌-◌, ◌^◌, Bool, cond, ◌||◌, ltb, ℤ, pos, neg_ℤ, nat_abs, ◌*ℤ◌}
use Rattle.std.specs.Int.Signed.{lt_z, shr_z}
use Rattle.units.specs.declared.Units.{Units}

-- the signed number that 32 bits say
abbrev pub fixed_of : ℕ → ℤ
fixed_of bits = cond (ltb bits (2 ^ 31)) (pos bits) (neg_ℤ (pos (2 ^ 32 - bits)))

-- its size, the sign left out
unfoldable pub fixed_size : ℕ → ℕ
fixed_size bits = nat_abs (fixed_of bits)

-- z / d, rounded down, below zero too: `rounded-low` and `rounded-high` of the proofs say that it is so
abbrev pub rounded_down : ℤ → ℕ → ℤ
rounded_down z d = shr_z z d

-- neither a Fixed nor a Fixed's negative
abbrev pub far_out : ℤ → Bool
far_out limit = lt_z limit (neg_ℤ (pos (2 ^ 31))) || lt_z (pos (2 ^ 31)) limit

-- limit × size / 65,536, rounded down; 0 for a limit that is neither a Fixed nor a Fixed's negative
unfoldable pub factor_of : ℤ → ℕ → ℤ
factor_of limit size = cond (far_out limit) (pos 0) (rounded_down (limit *ℤ pos size) 65536)

-- a distance as the code has it
abbrev pub in_units : ℤ → Units
in_units z = record { 0 = z }
