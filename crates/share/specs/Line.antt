-- The sharing rule on a line's glyphs (document 01, "Sharing the gap" and refusal 15), for one direction of the gap: from each glyph's part to the
-- movements of its two sides.
use Rattle.std.specs.Prelude.{ℕ, ◌≤◌, ◌<◌, ◌≡◌, Bool, true, false, ◌&&◌, List, [], ◌∷◌, length, get_or, ℤ, pos, neg_ℤ, ◌+ℤ◌}
use Rattle.share.specs.Share.{stages, no_part, movements, remainder, stages_fit, among, empty, full, all_total}
use Rattle.share.specs.Carry.{widest}

-- a glyph's part: its stage priority, 1 where it is unlimited and else 0, and the factors of its two sides
pub record Glyph : Type 0 where
  pub stage : ℕ
  pub extra : ℕ
  pub before : ℕ
  pub after : ℕ

-- the part of a glyph that takes none
abbrev pub apart : Glyph
apart = record { stage = no_part; extra = 0; before = 0; after = 0 }

-- ---- the sides in line order

abbrev pub side_stages : List Glyph → List ℕ
side_stages [] = []
side_stages (g ∷ gs) = g.stage ∷ g.stage ∷ side_stages gs

abbrev pub side_factors : List Glyph → List ℕ
side_factors [] = []
side_factors (g ∷ gs) = g.before ∷ g.after ∷ side_factors gs

abbrev pub side_extras : List Glyph → List ℕ
side_extras [] = []
side_extras (g ∷ gs) = 0 ∷ g.extra ∷ side_extras gs

-- of values of the sides, those of the before sides, and those of the after sides
abbrev pub evens : List ℕ → List ℕ
evens [] = []
evens (x ∷ []) = x ∷ []
evens (x ∷ y ∷ l) = x ∷ evens l

abbrev pub odds : List ℕ → List ℕ
odds [] = []
odds (x ∷ []) = []
odds (x ∷ y ∷ l) = y ∷ odds l

-- ---- the rule

-- by an edition that goes back (edition 1) or does not (edition 2)
unfoldable pub line_moves : Bool → List Glyph → ℕ → List ℕ
line_moves back gs gap = movements back (side_stages gs) (side_factors gs) (side_extras gs) gap

abbrev pub before_moves : Bool → List Glyph → ℕ → List ℕ
before_moves back gs gap = evens (line_moves back gs gap)

abbrev pub after_moves : Bool → List Glyph → ℕ → List ℕ
after_moves back gs gap = odds (line_moves back gs gap)

unfoldable pub line_left : Bool → List Glyph → ℕ → ℕ
line_left back gs gap = remainder back (side_stages gs) (side_factors gs) (side_extras gs) gap

-- refusal 15 does not bar the line
unfoldable pub line_fits : List Glyph → Bool
line_fits gs = stages_fit (side_stages gs) (side_factors gs) stages

-- a size with the gap's sign: minus where the line shrinks
abbrev pub signed_of : Bool → ℕ → ℤ
signed_of true x = neg_ℤ (pos x)
signed_of false x = pos x

-- no stage has an unlimited glyph
abbrev pub none_unlimited : List Glyph → Bool
none_unlimited gs = empty (side_stages gs) (side_extras gs) stages

-- the same, glyph by glyph: none whose stage priority is one of the stages is unlimited
abbrev pub EachLimited : List Glyph → Type 0
EachLimited gs = (place : ℕ) → place < length gs → among (get_or gs place apart).stage stages ≡ true → (get_or gs place apart).extra ≡ 0

-- no stage has a factor total above 0, and none an unlimited glyph
abbrev pub nothing_moves : List Glyph → Bool
nothing_moves gs = empty (side_stages gs) (side_factors gs) stages && none_unlimited gs

-- every side that takes part at its full factor, of each glyph's before side and of its after side; and all these factors together
abbrev pub full_moves : List Glyph → List ℕ
full_moves gs = full stages (side_stages gs) (side_factors gs)

abbrev pub full_total : List Glyph → ℕ
full_total gs = all_total (side_stages gs) (side_factors gs) stages

-- the sum of numbers with signs
abbrev pub sumℤ : List ℤ → ℤ
sumℤ [] = pos 0
sumℤ (z ∷ zs) = z +ℤ sumℤ zs

-- no factor is wider than sharing may multiply
abbrev pub Narrow : List ℕ → Type 0
Narrow fs = (i : ℕ) → get_or fs i 0 ≤ widest
