-- A table and two meanings that are compared in proofs/ by hand.
use Rattle.std.specs.Prelude.{ℕ, ◌*◌, List, [], ◌∷◌, replicate}
use Rattle.std.proofs.Math.Option.{some}
use Rattle.types.specs.declared.Pair.{Pair}
use Rattle.meaning.specs.Meaning.{empty_side, Meaning}

-- an empty width lookup; the action lookup at 22 leads glyph 0 to a list at 30, which has a count of 0
unfoldable pub empty_list : List ℕ
empty_list = 0 ∷ 1 ∷ 0 ∷ 0 ∷ 0 ∷ 0 ∷ 0 ∷ 10 ∷ 0 ∷ 0 ∷ 0 ∷ 0 ∷ 0 ∷ 0 ∷ 0 ∷ 22 ∷ 0 ∷ 8 ∷ 0 ∷ 0 ∷ 0 ∷ 0 ∷ 0 ∷ 8 ∷ 0 ∷ 0 ∷ 0 ∷ 1 ∷ 0 ∷ 8 ∷ 0 ∷ 0 ∷ 0 ∷ 0 ∷ []

-- a record of class 5 that grows by so much before its glyph
abbrev pub growing : ℕ → Pair
growing k = record { class = 5; before = record { grow = k; shrink = 0 }; after = record { grow = 0; shrink = 0 }; flags = record { grow = 0; shrink = 0 } }

-- one glyph, of a class, with such a record; a machine of two rows and so many classes, whose cells lead to row 0
unfoldable pub glyph_with : ℕ → ℕ → ℕ → Meaning
glyph_with classes class k =
    record {
      glyphs = 1;
      horizontal = record { machine = some (record { rows = 2; classes = classes; columns = class ∷ []; cells = replicate (2 * classes) (record { row = 0; flags = 0 }) }); clusters = (growing k ∷ []) ∷ []; lists = [] ∷ [] };
      vertical = empty_side 1;
    }
