-- The order of differences (document 02, 6/14): by direction, then by what differs, then by the first number, then by the second.
use Rattle.std.specs.Prelude.{ℕ, ◌^◌, ◌<◌, ◌≡◌, ◌⊎◌}
use Rattle.diff_rule.specs.declared.Difference.{Difference}
use Rattle.diff_rule.specs.Order.{direction_number, aspect_number}

-- how far the two numbers reach, so that one number can stand for all four
abbrev pub InReach : Difference → Type 0
InReach x = (x.subject < 2 ^ 16) × (x.class < 256)

-- less, or the same and then what follows
abbrev pub Less : ℕ → ℕ → Type 0 → Type 0
Less a b next = (a < b) ⊎ ((a ≡ b) × next)

abbrev pub Precedes : Difference → Difference → Type 0
Precedes x y =
    Less (direction_number x.direction) (direction_number y.direction)
    (Less (aspect_number x.aspect) (aspect_number y.aspect) (Less x.subject y.subject (x.class < y.class)))
