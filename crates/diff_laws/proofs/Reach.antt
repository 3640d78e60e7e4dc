-- The two numbers of a difference stay below 2 ^ 16 and 256, so the one number that stands for all four rises in their order.
use Prim.Native.Nat.{ℕ, ◌+◌, ◌*◌, ◌^◌, ◌≤◌, ◌<◌}
use mathlib.Core.Path.{◌≡◌}
use mathlib.Core.Logic.{inl, inr}
use mathlib.Core.Option.{Option, none, some}
use native.Mathlib.Decide.{dec_lt}
use native.Mathlib.Omega.{arith}
use Rattle.encoding.specs.Codes.{All}
use Rattle.encoding.proofs.ListLaws.{all_append}
use Rattle.types.specs.declared.Direction.{Direction}
use Rattle.types.specs.declared.Direction.TheVariants.{Horizontal, Vertical}
use Rattle.meaning.specs.Meaning.{Machine, Side, Meaning}
use Rattle.meaning.specs.Limits.{OkMaybe, OkSide, Valid}
use Rattle.diff_rule.specs.declared.Aspect.{Aspect}
use Rattle.diff_rule.specs.declared.Aspect.TheVariants.{Sizes, Class, Cell, Width, Actions}
use Rattle.diff_rule.specs.declared.Difference.{Difference}
use Rattle.diff_rule.specs.Differences.{sides_differ, differences}
use Rattle.diff_rule.specs.Order.{direction_number, aspect_number, key_of}
use Rattle.diff_laws.specs.Reach.{InReach, Less, Precedes}
use Rattle.diff_laws.proofs.Throughout.{EachCell, of-side}

module _ (n : ℕ) (few : n ≤ 65535) (d : Direction) where
  cells-reach : (p : Option Machine) → OkMaybe n p → EachCell InReach d n p
  cells-reach none ok = tt
  cells-reach (some a) ok = λ mark r c l k. (omega (arith, ok.few-rows), omega (arith, ok.few-classes))

  side-reach : (a b : Side) → OkSide n a → All InReach (sides_differ d n a b)
  side-reach a b ok =
      of-side InReach d n a b (λ mark. (omega arith, omega arith)) (λ mark g l. (omega arith, omega arith)) (cells-reach a.machine ok.machine)
      (λ mark g c l k. (omega arith, omega arith)) (λ mark g l. (omega arith, omega arith))

pub all-reach : (m m' : Meaning) → Valid m → All InReach (differences m m')
unfolding differences
all-reach m m' v =
    all_append InReach (sides_differ Horizontal m.glyphs m.horizontal m'.horizontal) (sides_differ Vertical m.glyphs m.vertical m'.vertical)
    (side-reach m.glyphs v.few-glyphs Horizontal m.horizontal m'.horizontal v.horizontal)
    (side-reach m.glyphs v.few-glyphs Vertical m.vertical m'.vertical v.vertical)

-- ---- the order

few-aspects : (a : Aspect) → aspect_number a < 5
few-aspects Sizes = omega arith
few-aspects Class = omega arith
few-aspects Cell = omega arith
few-aspects Width = omega arith
few-aspects Actions = omega arith

less : (a b : ℕ) (next : Type 0) → a ≤ b → (a ≡ b → next) → Less a b next
less a b next h k = go (dec_lt a b)
  where
    go : Dec (a < b) → Less a b next
    go (yes l) = inl l
    go (no l) = let e : a ≡ b = omega (arith, l) in inr (e, k e)

module _ (a p x y b q z w : ℕ) where
  rises : p < 5 → q < 5 → x < 2 ^ 16 → z < 2 ^ 16 → y < 256 → w < 256 → (5 * a + p) * 2 ^ 24 + 256 * x + y < (5 * b + q) * 2 ^ 24 + 256 * z + w
      → Less a b (Less p q (Less x z (y < w)))
  rises hp hq hx hz hy hw h =
      less a b (Less p q (Less x z (y < w))) (omega arith)
      (λ e. less p q (Less x z (y < w)) (omega arith) (λ f. less x z (y < w) (omega arith) (λ g. omega arith)))

pub key-rises : (x y : Difference) → InReach x → InReach y → key_of x < key_of y → Precedes x y
key-rises x y h k =
    rises (direction_number x.direction) (aspect_number x.aspect) x.subject x.class (direction_number y.direction) (aspect_number y.aspect) y.subject y.class
    (few-aspects x.aspect) (few-aspects y.aspect) h.0 k.0 h.1 k.1
