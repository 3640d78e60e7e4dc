-- A slot for each stretch, told by its bytes: stretches alike have the same, so only those that share one need be compared.
use Rattle.std.specs.Prelude.{ℕ, zero, suc, ◌+◌, ◌*◌, ◌/◌, ◌%◌, ◌^◌, ◌≤◌, ◌<◌, min, ◌≡◌, List, length, get_or, take, drop, Option, Some, None}
use Rattle.fields.specs.Field.{u32_at}
use Rattle.sheet_distinct.specs.Order.{Apart, up_from}

-- n words from a place on, mixed with what those before gave
unfoldable pub mixed : List ℕ → ℕ → ℕ → ℕ → ℕ
mixed s zero at h = h
mixed s (suc n) at h = mixed s n (at + 4) ((h + u32_at s at) % 4294967296 * 2654435761 % 4294967296)

-- offset i, or the end of the bytes where it lies past them
abbrev pub edge : List ℕ → List ℕ → ℕ → ℕ
edge s offsets i = min (get_or offsets i 0) (length s)

-- the slot of a stretch: its words mixed, those with which it ends
unfoldable pub slot_of : ℕ → List ℕ → ℕ
slot_of slots xs = mixed (drop (length xs % 4) xs) (length (drop (length xs % 4) xs) / 4) 0 0 * slots / 4294967296

-- the same with a factor of one's own
unfoldable pub mixed_by : ℕ → List ℕ → ℕ → ℕ → ℕ → ℕ
mixed_by factor s zero at h = h
mixed_by factor s (suc n) at h = mixed_by factor s n (at + 4) ((h + u32_at s at) % 4294967296 * factor % 4294967296)

unfoldable pub slot_by : ℕ → ℕ → List ℕ → ℕ
slot_by factor slots xs = mixed_by factor (drop (length xs % 4) xs) (length (drop (length xs % 4) xs) / 4) 0 0 * slots / 4294967296

-- no slot is taken
abbrev pub Unused : List ℕ → Type 0
Unused firsts = (i : ℕ) → get_or firsts i 0 ≡ 0

-- rooms to work in for n items
abbrev pub DistinctRooms : ℕ → List ℕ → List ℕ → Type 0
DistinctRooms n numbers firsts = (n ≤ length numbers) × (n ≤ length firsts) × (0 < length firsts) × (length firsts ≤ 2 ^ 17) × Unused firsts

-- the first r of the numbers are among those below n, and no two of them are alike exactly where no two of all are
pub record Thinned (f : ℕ → List ℕ) (n r : ℕ) (numbers : List ℕ) : Type 0 where
  pub few : r ≤ n
  pub to : Apart f (up_from 0 n) → Apart f (take r numbers)
  pub back : Apart f (take r numbers) → Apart f (up_from 0 n)

-- numbers below n
abbrev pub Under : ℕ → List ℕ → Type 0
Under n numbers = (i : ℕ) → get_or numbers i 0 < n

-- the first r of the new numbers, no two of which are alike exactly where no two of the old are; nothing where two of the old are
pub record Thinner (f : ℕ → List ℕ) (old : List ℕ) (r : ℕ) (new : List ℕ) : Type 0 where
  pub few : r ≤ length old
  pub to : Apart f old → Apart f (take r new)
  pub back : Apart f (take r new) → Apart f old

abbrev pub ThinnedAgain : (ℕ → List ℕ) → List ℕ → Option ℕ → List ℕ → Type 0
ThinnedAgain f old (Some r) new = Thinner f old r new
ThinnedAgain f old None new = Apart f old → ⊥
