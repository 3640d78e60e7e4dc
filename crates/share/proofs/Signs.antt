-- A number of 32 bits, as 64 hold it.
use mathlib.Core.Path.{◌≡◌, sym, ap, ◌∙◌, subst}
use native.Mathlib.Omega.{arith}
use lib.IntN.{ℤ}
use mir.Syntax.{w32, w64}
use mir.Val.{SFits, to_z, of_z}
use mir.ValLaws.{to_z-of_z}

module _ (z : ℤ) (f : SFits w32 z) where
  wide : SFits w64 z
  wide = record { sfits = omega (arith, f.sfits) }

  pub wide_fits : SFits w64 (to_z w32 (of_z w32 z))
  wide_fits = subst (SFits w64) (sym (to_z-of_z w32 z f)) wide

  pub widened : to_z w64 (of_z w64 (to_z w32 (of_z w32 z))) ≡ z
  widened = ap (λ (y : ℤ). to_z w64 (of_z w64 y)) (to_z-of_z w32 z f) ∙ to_z-of_z w64 z wide
