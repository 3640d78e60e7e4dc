-- A line that is as long as its target (document 01, "Sharing the gap", gap 0): no glyph moves on either side, and nothing is left.
use Prim.Native.Nat.{ℕ, zero, suc}
use mathlib.Core.Path.{◌≡◌, refl, ap, ◌∙◌}
use mathlib.Core.Bool.{Bool, true, false}
use mathlib.Core.List.{List, ◌∷◌, map}
use lib.IntN.{ℤ, pos, nat_abs}
use lib.ListN.{length, replicate}
use Rattle.share.specs.Line.{before_moves, after_moves, line_left, signed_of}
use Rattle.share.proofs.Lines.{line-unmoved}
use Rattle.meaning.specs.Meaning.{Side}
use Rattle.line_rule.specs.Line.{Line, goes_back, gap_of, gap_size, shrinks, parts_for, before_of, after_of, remainder_of}

pub none-signed : (b : Bool) → signed_of b 0 ≡ pos 0
none-signed true = refl
none-signed false = refl

zeros-signed : (b : Bool) (n : ℕ) → map (signed_of b) (replicate n 0) ≡ replicate n (pos 0)
zeros-signed b zero = refl
zeros-signed b (suc n) = ap (λ (z : ℤ). z ∷ map (signed_of b) (replicate n 0)) (none-signed b) ∙ ap (λ (l : List ℤ). pos 0 ∷ l) (zeros-signed b n)

module _ (s : Side) (l : Line) (e : gap_of l ≡ pos 0) where
  none : gap_size l ≡ 0
  none = ap nat_abs e

  pub before-none : before_of s l ≡ replicate (length (parts_for s l)) (pos 0)
  unfolding before_of
  before-none =
      ap (λ (g : ℕ). map (signed_of (shrinks l)) (before_moves (goes_back l.edition) (parts_for s l) g)) none
      ∙ ap (map (signed_of (shrinks l))) (line-unmoved (goes_back l.edition) (parts_for s l)).0
      ∙ zeros-signed (shrinks l) (length (parts_for s l))

  pub after_none : after_of s l ≡ replicate (length (parts_for s l)) (pos 0)
  unfolding after_of
  after_none =
      ap (λ (g : ℕ). map (signed_of (shrinks l)) (after_moves (goes_back l.edition) (parts_for s l) g)) none
      ∙ ap (map (signed_of (shrinks l))) (line-unmoved (goes_back l.edition) (parts_for s l)).1
      ∙ zeros-signed (shrinks l) (length (parts_for s l))

  pub remainder-none : remainder_of s l ≡ pos 0
  unfolding remainder_of
  remainder-none =
      ap (λ (g : ℕ). signed_of (shrinks l) (line_left (goes_back l.edition) (parts_for s l) g)) none
      ∙ ap (signed_of (shrinks l)) (line-unmoved (goes_back l.edition) (parts_for s l)).2
      ∙ none-signed (shrinks l)
