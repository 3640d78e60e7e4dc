-- What a glyph grows by: its two movements, given as their sizes side by side.
use Prim.Native.Nat.{ℕ, ◌+◌, ◌*◌}
use mathlib.Core.Path.{◌≡◌, ap, ap₂, ◌∙◌}
use mathlib.Core.Bool.{Bool, true, false}
use mathlib.Core.List.{List, map}
use native.Mathlib.Omega.{arith}
use lib.IntN.{pos, ◌+ℤ◌}
use lib.ListN.{get_or, get_or-map}
use Rattle.share.specs.Line.{signed_of, evens, odds}
use Rattle.share.proofs.Halves.{get_or-evens, get_or-odds}
use Rattle.share.proofs.Lines.{add-signed}

signed-at : (shrink : Bool) (moves : List ℕ) (place : ℕ) → get_or (map (signed_of shrink) moves) place (pos 0) ≡ signed_of shrink (get_or moves place 0)
signed-at true moves place = get_or-map (signed_of true) moves place 0
signed-at false moves place = get_or-map (signed_of false) moves place 0

module _ (shrink : Bool) (moves : List ℕ) (place : ℕ) where
  before-is : get_or (map (signed_of shrink) (evens moves)) place (pos 0) ≡ signed_of shrink (get_or moves (2 * place) 0)
  before-is =
      let e : place + place ≡ 2 * place = omega arith in
      signed-at shrink (evens moves) place ∙ ap (signed_of shrink) (get_or-evens place moves ∙ ap (λ (side : ℕ). get_or moves side 0) e)

  after_is : get_or (map (signed_of shrink) (odds moves)) place (pos 0) ≡ signed_of shrink (get_or moves (2 * place + 1) 0)
  after_is =
      let e : place + place + 1 ≡ 2 * place + 1 = omega arith in
      signed-at shrink (odds moves) place ∙ ap (signed_of shrink) (get_or-odds place moves ∙ ap (λ (side : ℕ). get_or moves side 0) e)

  pub growth-is : get_or (map (signed_of shrink) (evens moves)) place (pos 0) +ℤ get_or (map (signed_of shrink) (odds moves)) place (pos 0)
      ≡ signed_of shrink (get_or moves (2 * place) 0 + get_or moves (2 * place + 1) 0)
  growth-is = ap₂ ◌+ℤ◌ before-is after_is ∙ add-signed shrink (get_or moves (2 * place) 0) (get_or moves (2 * place + 1) 0)
