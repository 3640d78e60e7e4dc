-- Whether an action fires for a glyph (document 01, "Verdicts"): at a growth g in units, a point size s and the glyph's class.
-- Lower, upper and threshold are Fixed numbers of ems; they and g meet only as products, g × 65,536 and limit × s (the code holds g against a factor, by `below-factor` and `above-factor` of crate units).
use Rattle.std.specs.Prelude.{ℕ, Bool, cond, ◌||◌, List, eqb, ℤ, pos, nat_abs, ◌*ℤ◌}
use Rattle.std.specs.Int.Signed.{lt_z, le_z}
use Rattle.fields.specs.Field.{u32_at}
use Rattle.units.specs.Fixed.{fixed_of}
use Rattle.meaning.specs.Meaning.{Action}
use Rattle.verdict.specs.declared.Fires.{Fires}
use Rattle.verdict.specs.declared.Fires.TheVariants.{No, Plain, Substitutes}

-- ---- g × 65,536 against limit × s

abbrev pub below : ℤ → ℤ → ℕ → Bool
below g limit s = lt_z (g *ℤ pos 65536) (limit *ℤ pos s)

abbrev pub above : ℤ → ℤ → ℕ → Bool
above g limit s = lt_z (limit *ℤ pos s) (g *ℤ pos 65536)

abbrev pub reaches : ℤ → ℤ → ℕ → Bool
reaches g limit s = le_z (limit *ℤ pos s) (g *ℤ pos 65536)

-- ---- an action's data: type 0 begins with lower and upper, type 2 with its threshold

abbrev pub lower : List ℕ → ℤ
lower content = fixed_of (u32_at content 0)

abbrev pub upper : List ℕ → ℤ
upper content = fixed_of (u32_at content 4)

abbrev pub threshold : List ℕ → ℤ
threshold content = fixed_of (u32_at content 0)

-- ---- the types

abbrev pub grows : ℤ → Bool
grows g = lt_z (pos 0) g

-- type 0
unfoldable pub breaks : List ℕ → ℤ → ℕ → Fires
breaks content g s = cond (below g (lower content) s || above g (upper content) s) Plain No

-- types 1 and 5
unfoldable pub adds : ℤ → Fires
adds g = cond (grows g) Plain No

-- type 2
unfoldable pub substitutes : List ℕ → ℤ → ℕ → Fires
substitutes content g s = cond (grows g) (cond (reaches g (threshold content) s) Substitutes Plain) No

-- types 3 and 4
unfoldable pub stretches : ℤ → Fires
stretches g = cond (eqb (nat_abs g) 0) No Plain

-- no other type fires
unfoldable pub type_fires : ℕ → List ℕ → ℤ → ℕ → Fires
type_fires ty content g s =
    cond (eqb ty 0) (breaks content g s) (
    cond (eqb ty 1 || eqb ty 5) (adds g) (
    cond (eqb ty 2) (substitutes content g s) (
    cond (eqb ty 3 || eqb ty 4) (stretches g) No)))

-- an action of another class than the glyph's does not fire
unfoldable pub fires_of : Action → ℕ → ℤ → ℕ → Fires
fires_of a class g s = cond (eqb a.class class) (type_fires a.ty a.content g s) No
