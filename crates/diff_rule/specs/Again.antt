-- The differences of one glyph, once they are stored, stored again for another glyph that has the same (document 02, 6/14): five numbers each, of which the
-- fourth is the glyph.
use Rattle.std.specs.Prelude.{ℕ, zero, suc, ◌+◌, List, [], ◌∷◌, ◌++◌, get_or}
use Rattle.diff_rule.specs.declared.Difference.{Difference}

-- a difference, of another glyph
abbrev pub for_glyph : ℕ → Difference → Difference
for_glyph g x = record { direction = x.direction; aspect = x.aspect; mark = x.mark; subject = g; class = x.class }

-- so many differences, whose numbers stand in a block from its place p on, for the glyph g
unfoldable pub again : ℕ → List ℕ → ℕ → ℕ → List ℕ
again zero block g p = []
again (suc k) block g p =
    get_or block p 0 ∷ get_or block (p + 1) 0 ∷ get_or block (p + 2) 0 ∷ g ∷ get_or block (p + 4) 0 ∷ again k block g (p + 5)

-- those at the block's start, for n glyphs from g on
unfoldable pub again_through : ℕ → List ℕ → ℕ → ℕ → List ℕ
again_through k block zero g = []
again_through k block (suc n) g = again k block g 0 ++ again_through k block n (suc g)
