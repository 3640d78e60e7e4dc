-- Which difference it is, as one number: direction, aspect, and the two numbers. Two differences of one place have the same; a list whose numbers rise strictly
-- has each difference once, in the order of document 02, 6/14, since of those listed the first number is below 65,536 and the second below 256 (shown in crate
-- diff_laws). And a difference as the five numbers that are stored.
use Rattle.std.specs.Prelude.{ℕ, suc, ◌+◌, ◌*◌, ◌≤◌, ◌^◌, ◌≡◌, List, [], ◌∷◌, length}
use Rattle.std.proofs.lemmas.List.Edits.{sets}
use Rattle.encoding.specs.Codes.{many}
use Rattle.types.specs.declared.Direction.{Direction}
use Rattle.types.specs.declared.Direction.TheVariants.{Horizontal, Vertical}
use Rattle.diff_rule.specs.declared.Aspect.{Aspect}
use Rattle.diff_rule.specs.declared.Aspect.TheVariants.{Sizes, Class, Cell, Width, Actions}
use Rattle.diff_rule.specs.declared.Mark.{Mark}
use Rattle.diff_rule.specs.declared.Mark.TheVariants.{Changed, OnlyFirst, OnlySecond}
use Rattle.diff_rule.specs.declared.Difference.{Difference}

abbrev pub direction_number : Direction → ℕ
direction_number Horizontal = 0
direction_number Vertical = 1

abbrev pub aspect_number : Aspect → ℕ
aspect_number Sizes = 0
aspect_number Class = 1
aspect_number Cell = 2
aspect_number Width = 3
aspect_number Actions = 4

-- the numbers of one aspect begin here
abbrev pub first_key : Direction → Aspect → ℕ
first_key d a = (5 * direction_number d + aspect_number a) * 2 ^ 24

abbrev pub key_of : Difference → ℕ
key_of x = first_key x.direction x.aspect + 256 * x.subject + x.class

-- the numbers of a list rise strictly, from b or more, and stay below e
abbrev pub Between : ℕ → ℕ → List Difference → Type 0
Between b e [] = b ≤ e
Between b e (x ∷ xs) = (b ≤ key_of x) × Between (suc (key_of x)) e xs

-- ---- a difference as it is stored in a lent slice: five 16-bit numbers

abbrev pub mark_number : Mark → ℕ
mark_number Changed = 0
mark_number OnlyFirst = 1
mark_number OnlySecond = 2

-- direction, aspect, mark, and the two numbers
unfoldable pub numbers_of : Difference → List ℕ
numbers_of x = direction_number x.direction ∷ aspect_number x.aspect ∷ mark_number x.mark ∷ x.subject ∷ x.class ∷ []

-- differences one after the other
unfoldable pub all_numbers : List Difference → List ℕ
all_numbers xs = many numbers_of xs

-- they are stored from the number `to` of a slice on, which was l and is k, and end at e
abbrev pub Stores : List ℕ → List ℕ → ℕ → ℕ → List Difference → Type 0
Stores l k to e xs = (k ≡ sets l to (all_numbers xs)) × (e ≡ to + length (all_numbers xs))
