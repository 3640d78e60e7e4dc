-- The remainder of edition 2, and what it means that it is not 0 (document 02, request 7/14), of the outcomes of a line's call.
use Rattle.std.specs.Prelude.{ℕ, ◌-◌, ◌≡◌, true, cond, List, map, ℤ, pos}
use Rattle.share.specs.Line.{Glyph, evens, odds, signed_of, none_unlimited, full_moves, full_total}
use Rattle.line_rule.specs.Line.{Line, shrinks, gap_size, parts_for}
use Rattle.line_call.specs.Justified.{Lent, side_for, justifies, justified}

-- the parts of a line's glyphs by its table
abbrev pub parts_in : List ℕ → ℕ → Line → List Glyph
parts_in t n l = parts_for (side_for t n l) l

-- every side that takes part has its full factor, each other side 0, and no stage has an unlimited glyph
pub record FullFactors (t : List ℕ) (n : ℕ) (l : Line) (b : Lent) : Type 0 where
  pub before : (justified t n l b).lent.before ≡ map (signed_of (shrinks l)) (evens (full_moves (parts_in t n l)))
  pub after : (justified t n l b).lent.after ≡ map (signed_of (shrinks l)) (odds (full_moves (parts_in t n l)))
  pub limited : none_unlimited (parts_in t n l) ≡ true

-- in edition 2 a remainder other than 0 means full factors
abbrev pub LimitsFull : Type 0
LimitsFull =
    (t : List ℕ) (n : ℕ) (l : Line) (b : Lent) (z : ℤ) (k v : ℕ) → l.edition ≡ 2 → (justified t n l b).answer ≡ justifies z k v → (z ≡ pos 0 → ⊥) → FullFactors t n l b

-- the remainder of edition 2: what is past all factors, where no stage has an unlimited glyph, and 0 otherwise
abbrev pub LimitsIs : Type 0
LimitsIs =
    (t : List ℕ) (n : ℕ) (l : Line) (b : Lent) (z : ℤ) (k v : ℕ) → l.edition ≡ 2 → (justified t n l b).answer ≡ justifies z k v
    → z ≡ signed_of (shrinks l) (cond (none_unlimited (parts_in t n l)) (gap_size l - full_total (parts_in t n l)) 0)
