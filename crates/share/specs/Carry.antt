-- Step 1's formula with a quotient and a remainder carried from side to side (document 02, request 3/14), over plain numbers: the amount r is shared over the total t, and
-- the running total is c. No product is wider than that of two numbers of at most 1,073,741,824.
use Rattle.std.specs.Prelude.{ℕ, ◌+◌, ◌-◌, ◌*◌, ◌/◌, ◌%◌, ◌≤◌, ◌<◌, ◌≡◌}
use Rattle.share.specs.Share.{share_at}

-- the most that a number may be which sharing multiplies
abbrev pub widest : ℕ
widest = 1073741824

-- the most that a total may be for one side's step
abbrev pub farthest : ℕ
farthest = 4611686018427387904

-- what is carried at the running total c: the quotient q and the remainder m of r × c by t
pub record Carries (r t c q m : ℕ) : Type 0 where
  pub quotient : q ≡ r * c / t
  pub remainder : m ≡ r * c % t

-- what may be handed to one side's step, of a side of weight w: every total from 1 to the farthest; the quotient has room to grow
pub record Carriable (r t w q m : ℕ) : Type 0 where
  pub amount : r ≤ widest
  pub weight : w ≤ widest
  pub some : 1 ≤ t
  pub over : t ≤ farthest
  pub remainder : m < t
  pub quotient : q ≤ farthest

-- one side's step is right: whatever running total q and m are carried at, p and n are carried at that total and the side's weight, and the side's share by step 1's
-- formula is what the quotient rises by. Where q and m are carried at no running total, `kept` and `below` still fix p and n: quotient and remainder, by t, of
-- m + r × w + q × t
pub record CarriedOn (r t w q m p n : ℕ) : Type 0 where
  pub carries : (c : ℕ) → Carries r t c q m → Carries r t (c + w) p n
  pub share : (c : ℕ) → Carries r t c q m → p - q ≡ share_at r t c w
  pub kept : n + p * t ≡ m + r * w + q * t
  pub below : n < t
  pub rises : q ≤ p
