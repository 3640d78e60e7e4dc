-- Small lines and records by which the definitions can be checked by eye; wrong readings of document 01 break them.
use Prim.Native.Nat.{ℕ}
use mathlib.Core.Path.{◌≡◌, refl}
use mathlib.Core.Bool.{true, false}
use mathlib.Core.Option.{none, some}
use mathlib.Core.List.{List, [], ◌∷◌, map}
use lib.IntN.{ℤ, pos, neg_ℤ}
use Rattle.fields.specs.Field.{u16_at, u32_at}
use Rattle.types.specs.declared.Direction.TheVariants.{Horizontal}
use Rattle.types.specs.declared.Pair.{Pair}
use Rattle.types.specs.declared.Verdict.{Verdict}
use Rattle.meaning.specs.Meaning.{Machine, Action, Side}
use Rattle.share.specs.Line.{Glyph}
use Rattle.verdict.specs.Verdict.{breaks, adds, substitutes, stretches, type_fires, fires_of}
use Rattle.line_rule.specs.Line.{Line, goes_back, known_edition, gap_of, shrinks, gap_size, column_of, stage_of, part_of, parts_of, firings, verdicts_from}
use Rattle.line_rule.specs.Edges.{left_edge, right_edge}

-- two glyphs of 10 units each, with a target
abbrev line : ℤ → Line
line target =
    record {
      direction = Horizontal;
      starts = true;
      ends = true;
      sizes = 65536 ∷ 65536 ∷ [];
      glyphs = 3 ∷ 4 ∷ [];
      advances = pos 10 ∷ pos 10 ∷ [];
      target = target;
      edition = 1;
    }

-- a line that is as long as its target does not shrink; one unit less and it does, by one unit
pub gaps : (shrinks (line (pos 20)) ≡ false) × (shrinks (line (pos 19)) ≡ true) × (gap_size (line (pos 19)) ≡ 1) × (gap_size (line (pos 23)) ≡ 3)
unfolding gap_of
gaps = (refl, refl, refl, refl)

-- of the editions 1 and 2 the first goes back; there is no edition 0, and none past 2
pub editions : (map known_edition (0 ∷ 1 ∷ 2 ∷ 3 ∷ []) ≡ false ∷ true ∷ true ∷ false ∷ []) × (map goes_back (1 ∷ 2 ∷ []) ≡ true ∷ false ∷ [])
editions = (refl, refl)

-- a deleted glyph is of class 2 whatever the machine's classes say; a glyph that has none is of class 1
abbrev machine : Machine
machine = record { rows = 2; classes = 5; columns = 4 ∷ 4 ∷ []; cells = [] }

pub columns : map (column_of machine) (0xFFFF ∷ 1 ∷ 2 ∷ []) ≡ 2 ∷ 4 ∷ 1 ∷ []
columns = refl

-- priorities 0 to 3 are stages, with or without the unlimited flag
pub stages : map stage_of (0 ∷ 1 ∷ 2 ∷ 3 ∷ 0x1003 ∷ []) ≡ 0 ∷ 1 ∷ 2 ∷ 3 ∷ 3 ∷ []
stages = refl

-- at a size of one point, growing and shrinking, by the limits and flags of that side
abbrev pair : Pair
pair =
    record {
      class = 0;
      before = record { grow = 65536; shrink = 131072 };
      after = record { grow = 98304; shrink = 1 };
      flags = record { grow = 0x1001; shrink = 2 };
    }

abbrev part : ℕ → ℕ → ℕ → ℕ → Glyph
part stage extra before after = record { stage = stage; extra = extra; before = before; after = after }

pub sides : (part_of false 65536 (some pair) ≡ part 1 1 65536 98304) × (part_of true 65536 (some pair) ≡ part 2 0 131072 1)
sides = (refl, refl)

-- an action's number counts the actions of other classes too, and those that do not fire
abbrev action : ℕ → ℕ → Action
action class ty = record { class = class; ty = ty; content = [] }

abbrev verdict : ℕ → ℕ → Verdict
verdict place number = record { place = place; action = number; substitutes = 0 }

pub numbers : firings 9 7 65536 (neg_ℤ (pos 5)) 0 (action 8 3 ∷ action 7 1 ∷ action 7 3 ∷ action 7 4 ∷ []) ≡ verdict 9 2 ∷ verdict 9 3 ∷ []
unfolding firings fires_of type_fires adds stretches
numbers = refl

-- one record and one list of actions for two glyphs, the second at twice the size of the first (document 02, request 5/14): its factors are twice the first's. Both
-- grow by one and a half times the first's size: past a threshold and an upper limit of 1 em there, short of both at the second's size
abbrev one_em : List ℕ
one_em = 0 ∷ 1 ∷ 0 ∷ 0 ∷ []

abbrev side : Side
side =
    record {
      machine = none;
      clusters = (pair ∷ []) ∷ [];
      lists = (record { class = 0; ty = 2; content = one_em } ∷ record { class = 0; ty = 0; content = 0 ∷ 0 ∷ 0 ∷ 0 ∷ one_em } ∷ []) ∷ [];
    }

abbrev doubled : List ℕ
doubled = 65536 ∷ 131072 ∷ []

pub own-factors : parts_of side false doubled (0 ∷ 0 ∷ []) (0 ∷ 0 ∷ []) ≡ part 1 1 65536 98304 ∷ part 1 1 131072 196608 ∷ []
unfolding parts_of
own-factors = refl

pub own-verdicts : verdicts_from side 0 doubled (0 ∷ 0 ∷ []) (0 ∷ 0 ∷ []) (pos 65536 ∷ pos 65536 ∷ []) (pos 32768 ∷ pos 32768 ∷ [])
    ≡ record { place = 0; action = 0; substitutes = 1 } ∷ verdict 0 1 ∷ verdict 1 0 ∷ []
unfolding verdicts_from firings fires_of type_fires breaks substitutes u32_at u16_at
own-verdicts = refl

-- three glyphs: the third one's edges count the advances and movements of the first two once each, its own before movement in both, its advance and after movement in the
-- right edge alone
abbrev widths : List ℤ
widths = pos 100 ∷ pos 20 ∷ pos 3 ∷ []

abbrev befores : List ℤ
befores = pos 1000 ∷ pos 2000 ∷ pos 4000 ∷ []

abbrev afters : List ℤ
afters = pos 10000 ∷ pos 20000 ∷ pos 40000 ∷ []

pub edges : (left_edge widths befores afters 2 ≡ pos 37120) × (right_edge widths befores afters 2 ≡ pos 77123)
edges = (refl, refl)
