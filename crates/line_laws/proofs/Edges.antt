-- A wider column never pulls a glyph back (document 02, request 1/14): for one line, table, sizes, pair of flags and edition, and any two targets that are both accepted,
-- every glyph's left and right edge under the wider target are at or beyond their places under the narrower.
use Prim.Native.Nat.{ℕ}
use mathlib.Core.Path.{◌≡◌, sym, ap₂, subst}
use mathlib.Core.List.{List}
use lib.IntN.{ℤ}
use lib.Signed.{◌≤ℤ◌}
use Rattle.meaning.specs.Ask.{side_of}
use Rattle.table.specs.Means.{meaning_of}
use Rattle.line_rule.specs.Line.{Line, before_of, after_of}
use Rattle.line_rule.specs.Edges.{left_edge, right_edge, aimed}
use Rattle.line_rule.proofs.Edges.{edges-rise}
use Rattle.line_call.specs.Justified.{Lent}
use Rattle.line_call.proofs.Theorems.{answered}
use Rattle.line_laws.specs.Edges.{Shown, left, right, NeverBack}

-- the edges that a call's outcome shows are those of its movements
module _ (t : List ℕ) (n : ℕ) (l : Line) (u : ℤ) (b : Lent) (p : Shown t n (aimed l u) b) (i : ℕ) where
  left_by_lem : left t n (aimed l u) b i ≡ left_edge l.advances (before_of (side_of l.direction (meaning_of t n)) (aimed l u)) (after_of (side_of l.direction (meaning_of t n)) (aimed l u)) i
  left_by_lem =
      let w = answered t n (aimed l u) b p.remainder p.entries p.verdicts p.answer in
      ap₂ (λ (x y : List ℤ). left_edge l.advances x y i) w.before w.after

  right_by : right t n (aimed l u) b i ≡ right_edge l.advances (before_of (side_of l.direction (meaning_of t n)) (aimed l u)) (after_of (side_of l.direction (meaning_of t n)) (aimed l u)) i
  right_by =
      let w = answered t n (aimed l u) b p.remainder p.entries p.verdicts p.answer in
      ap₂ (λ (x y : List ℤ). right_edge l.advances x y i) w.before w.after

same-order : {x y x' y' : ℤ} → x ≡ x' → y ≡ y' → x' ≤ℤ y' → x ≤ℤ y
same-order {x} {y} {x'} {y'} e f h = subst (λ (z : ℤ). z ≤ℤ y) (sym e) (subst (λ (z : ℤ). x' ≤ℤ z) (sym f) h)

-- NEVER BACK
pub never_back : NeverBack
never_back t n l u w b c h p q i =
    let e = edges-rise (side_of l.direction (meaning_of t n)) l h i in
    (same-order (left_by_lem t n l u b p i) (left_by_lem t n l w c q i) e.0, same-order (right_by t n l u b p i) (right_by t n l w c q i) e.1)
