-- The data of an action, read where it stands.
use Prim.Native.Nat.{ℕ, ◌+◌, ◌*◌, ◌≤◌, ◌<◌}
use mathlib.Core.Path.{◌≡◌}
use mathlib.Core.List.{List}
use native.Mathlib.Omega.{arith}
use lib.ListN.{length, drop, length-drop}
use lib.Seq.{length-take-le}
use Rattle.fields.specs.Field.{u16_at}
use Rattle.meaning.specs.Limits.{OkContent}
use Rattle.sheet_list.specs.Action.{bytes_at}

module _ (s : List ℕ) (at size : ℕ) (room : at + size ≤ length s) where
  pub bytes-length : length (bytes_at s at size) ≡ size
  bytes-length = length-take-le size (drop at s) (omega (arith, length-drop at s))

-- type 0, by its count as it was read
module _ (n : ℕ) (d : List ℕ) (count : ℕ) (e : count ≡ u16_at d 10) (some : 1 ≤ count) (few : count ≤ 32) (l : length d ≡ 12 + 2 * count) where
  pub components-are : ((k : ℕ) → k < count → u16_at d (12 + 2 * k) < n) → OkContent n 0 d
  components-are h = (omega arith, omega arith, omega arith, (λ k i. h k (omega arith)))
