-- The tests of refusals 9, 11 and 13: what they say of each place, and how a loop goes on with one.
use Prim.Native.Nat.{ℕ, zero, suc, ◌+◌, ◌<◌}
use mathlib.Core.Path.{◌≡◌, refl}
use mathlib.Core.Bool.{Bool, true, false, ◌&&◌, false≢true}
use mathlib.Core.List.{List, [], ◌∷◌}
use native.Mathlib.Omega.{arith}
use native.Mathlib.Numerals.{add-one}
use lib.ListN.{length, get_or, drop}
use lib.Seq.{drop-cons}
use Rattle.std.proofs.lemmas.Bool.Decides.{nat_tests}
use Rattle.line_input.specs.Input.{KnownGlyphs, SmallSizes, all_long, good_sizes, all_known}

-- ---- conjunctions

pub and_left : (a b : Bool) → (a && b) ≡ true → a ≡ true
and_left true b e = refl
and_left false b e = e

pub and_right : (a b : Bool) → (a && b) ≡ true → b ≡ true
and_right true b e = e
and_right false b e = absurd (false≢true e)

-- ---- lengths

-- five that refusal 9 does not bar
pub lengths-hold : (n a b c d e : ℕ) → all_long n (a ∷ b ∷ c ∷ d ∷ e ∷ []) ≡ true → (a ≡ n) × (b ≡ n) × (c ≡ n) × (d ≡ n) × (e ≡ n)
lengths-hold n a b c d e h = grind (arith, nat_tests)

-- ---- one glyph more

module _ {A : Type 0} (xs : List A) (i : ℕ) (d : A) where
  pub drop-next : i < length xs → drop i xs ≡ get_or xs i d ∷ drop (i + 1) xs
  drop-next h = rw (add-one, drop-cons xs i d)

-- ---- what the tests say of each place
pub sizes-small : (zs : List ℕ) → good_sizes zs ≡ true → SmallSizes zs
sizes-small [] e place = omega arith
sizes-small (z ∷ zs) e zero = grind (arith, nat_tests)
sizes-small (z ∷ zs) e (suc place) = sizes-small zs (grind (arith, nat_tests)) place

pub known-each : (n : ℕ) (gs : List ℕ) → all_known n gs ≡ true → KnownGlyphs n gs
known-each n [] e place h = absurd (omega arith)
known-each n (g ∷ gs) e zero h = grind (arith, nat_tests)
known-each n (g ∷ gs) e (suc place) h = known-each n gs (grind (arith, nat_tests)) place (omega arith)
