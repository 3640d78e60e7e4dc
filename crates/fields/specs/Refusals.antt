-- The number that document 01, "Numbers of refusal", and the requests of document 02 give each refusal.
use Rattle.std.specs.Prelude.{ℕ, ◌-◌, List, [], ◌∷◌, get_or, ◌≡◌, refl}
use Rattle.std.proofs.Common.{sym, ◌∙◌, ap}
use Rattle.fields.specs.declared.Refusal.{Refusal}
use Rattle.fields.specs.declared.Refusal.TheVariants.{TableLength, GlyphCount, Version, Outside, BadLookup, BadCluster, BadMachine, BadActions, UnequalLengths, LongLine, PointSize, Advances, UnknownGlyph, EndlessWalk, StageTotal, ShortRoom, NotSheet, UnknownEdition, FontEnds, MissingTable, WrongSum}

abbrev pub number_of : Refusal → ℕ
number_of TableLength = 1
number_of GlyphCount = 2
number_of Version = 3
number_of Outside = 4
number_of BadLookup = 5
number_of BadCluster = 6
number_of BadMachine = 7
number_of BadActions = 8
number_of UnequalLengths = 9
number_of LongLine = 10
number_of PointSize = 11
number_of Advances = 12
number_of UnknownGlyph = 13
number_of EndlessWalk = 14
number_of StageTotal = 15
number_of ShortRoom = 16
number_of NotSheet = 17
number_of UnknownEdition = 18
number_of FontEnds = 21
number_of MissingTable = 22
number_of WrongSum = 23

-- the refusals by their numbers, from 1 on; 19 and 20 are none, and what stands there is not looked at
in_order : List Refusal
in_order =
    TableLength ∷ GlyphCount ∷ Version ∷ Outside ∷ BadLookup ∷ BadCluster ∷ BadMachine ∷ BadActions ∷ UnequalLengths ∷ LongLine
    ∷ PointSize ∷ Advances ∷ UnknownGlyph ∷ EndlessWalk ∷ StageTotal ∷ ShortRoom ∷ NotSheet
    ∷ UnknownEdition ∷ NotSheet ∷ NotSheet ∷ FontEnds ∷ MissingTable ∷ WrongSum ∷ []

with_number : ℕ → Refusal
unfolding in_order
with_number n = get_or in_order (n - 1) NotSheet

with_number-of : (r : Refusal) → with_number (number_of r) ≡ r
unfolding in_order with_number
with_number-of TableLength = refl
with_number-of GlyphCount = refl
with_number-of Version = refl
with_number-of Outside = refl
with_number-of BadLookup = refl
with_number-of BadCluster = refl
with_number-of BadMachine = refl
with_number-of BadActions = refl
with_number-of UnequalLengths = refl
with_number-of LongLine = refl
with_number-of PointSize = refl
with_number-of Advances = refl
with_number-of UnknownGlyph = refl
with_number-of EndlessWalk = refl
with_number-of StageTotal = refl
with_number-of ShortRoom = refl
with_number-of NotSheet = refl
with_number-of UnknownEdition = refl
with_number-of FontEnds = refl
with_number-of MissingTable = refl
with_number-of WrongSum = refl

-- no two refusals have one number
pub one_number : (r s : Refusal) → number_of r ≡ number_of s → r ≡ s
one_number r s e = sym (with_number-of r) ∙ ap with_number e ∙ with_number-of s
