-- Actions at growths, beside the starred lines (crates/samples): one list of cases, one theorem.
-- Each is at 12 pt, 786,432 units, and for a glyph of class 7.
use Prim.Native.Nat.{ℕ}
use mathlib.Core.Path.{◌≡◌, refl}
use mathlib.Core.List.{List, [], ◌∷◌, ◌++◌, map}
use lib.IntN.{ℤ, pos, neg_ℤ}
use Rattle.fields.specs.Field.{be16, be32, u16_at, u32_at}
use Rattle.meaning.specs.Meaning.{Action}
use Rattle.verdict.specs.Verdict.{breaks, adds, substitutes, stretches, type_fires, fires_of}
use Rattle.verdict.specs.declared.Fires.{Fires}
use Rattle.verdict.specs.declared.Fires.TheVariants.{No, Plain, Substitutes}

pub record Sample : Type 0 where
  pub action : Action
  pub growth : ℤ
  pub fires : Fires

-- a ligature with its two limits, and a glyph that is added past a threshold, all as the bits of Fixed numbers
abbrev ligature : ℕ → ℕ → Action
ligature lower upper = record { class = 7; ty = 0; content = be32 lower ++ be32 upper ++ be16 0 ++ be16 1 ++ be16 3 }

abbrev added : ℕ → Action
added threshold = record { class = 7; ty = 2; content = be32 threshold ++ be16 3 ++ be16 4 }

abbrev other : ℕ → ℕ → Action
other class ty = record { class = class; ty = ty; content = be16 3 }

abbrev sample : Action → ℤ → Fires → Sample
sample action growth fires = record { action = action; growth = growth; fires = fires }

abbrev pub samples : List Sample
samples =
    -- lower 0, upper 0.5 em
    sample (ligature 0 32768) (pos 0) No
    ∷ sample (ligature 0 32768) (neg_ℤ (pos 1)) Plain
    -- lower -0.5 em; lower above upper, at no growth
    ∷ sample (ligature 0xFFFF8000 0) (neg_ℤ (pos 393216)) No
    ∷ sample (ligature 0xFFFF8000 0) (neg_ℤ (pos 393217)) Plain
    ∷ sample (ligature 65536 32768) (pos 0) Plain
    -- a threshold of 0.5 em; and one below 0, which only a growth above 0 meets
    ∷ sample (added 32768) (pos 393215) Plain
    ∷ sample (added 32768) (pos 393216) Substitutes
    ∷ sample (added 32768) (pos 0) No
    ∷ sample (added 0xFFFF0000) (neg_ℤ (pos 1)) No
    ∷ sample (added 0xFFFF0000) (pos 1) Substitutes
    -- types 1 and 5, 3 and 4, no type
    ∷ sample (other 7 1) (pos 1) Plain
    ∷ sample (other 7 1) (pos 0) No
    ∷ sample (other 7 5) (neg_ℤ (pos 1)) No
    ∷ sample (other 7 5) (pos 1) Plain
    ∷ sample (other 7 3) (neg_ℤ (pos 1)) Plain
    ∷ sample (other 7 4) (pos 1) Plain
    ∷ sample (other 7 4) (pos 0) No
    ∷ sample (other 7 6) (pos 1) No
    -- another class
    ∷ sample (other 8 1) (pos 1) No
    ∷ []

pub worked-out : map (λ (s : Sample). fires_of s.action 7 s.growth 786432) samples ≡ map (λ (s : Sample). s.fires) samples
unfolding u16_at u32_at breaks adds substitutes stretches type_fires fires_of
worked-out = refl
