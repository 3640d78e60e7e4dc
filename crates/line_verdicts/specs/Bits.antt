-- The verdicts of a line as they are kept from counting to storing (document 01, "Verdicts"): for each glyph two numbers, one after the other, whose bits say which of its
-- actions fire and which of those substitute. Bit k is the action with number k, and a list has at most 64.
use Rattle.std.specs.Prelude.{ℕ, zero, suc, ◌+◌, ◌-◌, ◌*◌, ◌/◌, ◌%◌, ◌<◌, ◌≤◌, ◌^◌, ◌≡◌, cond, List, [], ◌∷◌, ◌++◌, eqb, ℤ, length, drop}
use Rattle.fields.specs.Faults.{Clear}
use Rattle.types.specs.declared.Verdict.{Verdict}
use Rattle.meaning.specs.Meaning.{Action}
use Rattle.actions.specs.Faults.{actions_fault}
use Rattle.verdict.specs.declared.Fires.{Fires}
use Rattle.verdict.specs.declared.Fires.TheVariants.{No, Plain, Substitutes}
use Rattle.line_rule.specs.Line.{firings}
use Rattle.line_verdicts.specs.declared.GlyphBits.{GlyphBits}
use Rattle.line_verdicts.specs.declared.VerdictCursor.{VerdictCursor}

-- ---- what is told

abbrev pub verdict_of : ℕ → ℕ → ℕ → Verdict
verdict_of place number substitutes = record { place = place; action = number; substitutes = substitutes }

-- the verdicts that k bits tell of the glyph at a place, the lowest of them being the action with this number
unfoldable pub bits_tell : ℕ → ℕ → ℕ → ℕ → ℕ → List Verdict
bits_tell zero place number fires substitutes = []
bits_tell (suc k) place number fires substitutes =
    cond (eqb (fires % 2) 1) (verdict_of place number (substitutes % 2) ∷ []) [] ++ bits_tell k place (number + 1) (fires / 2) (substitutes / 2)

-- those of an action with this number and of all after it
abbrev pub tell_from : ℕ → ℕ → ℕ → ℕ → List Verdict
tell_from place number fires substitutes = bits_tell (64 - number) place number fires substitutes

-- those of the glyphs from a place on, whose numbers stand one after the other: which actions fire, then which substitute
unfoldable pub told_from : ℕ → List ℕ → List Verdict
told_from place [] = []
told_from place (f ∷ []) = []
told_from place (f ∷ s ∷ bits) = tell_from place 0 f s ++ told_from (suc place) bits

-- all of them
abbrev pub told : List ℕ → List Verdict
told bits = told_from 0 bits

-- what is left at a cursor of the glyph before `next`: the actions from `number` on
abbrev pub tell_at : VerdictCursor → List Verdict
tell_at c = tell_from (c.next - 1) c.number c.fires c.substitutes

-- what is left of the line: that, then the glyphs from `next` on
unfoldable pub left_at : List ℕ → VerdictCursor → List Verdict
left_at bits c = tell_at c ++ told_from c.next (drop (2 * c.next) bits)

-- nothing is taken
abbrev pub start_cursor : VerdictCursor
start_cursor = record { next = 0; number = 0; fires = 0; substitutes = 0 }

-- the two numbers of each of so many glyphs, which are at most 1,024
pub record BitPairs (bits : List ℕ) : Type 0 where
  pub glyphs : ℕ
  pub even : length bits ≡ 2 * glyphs
  pub few : glyphs ≤ 1024

-- a cursor into them: no bit stands past the last action, and none before a glyph is begun
pub record Serves (bits : List ℕ) (c : VerdictCursor) : Type 0 where
  pub within : 2 * c.next ≤ length bits
  pub begun : c.next ≡ 0 → c.fires ≡ 0
  pub number : c.number ≤ 64
  pub low : c.fires < 2 ^ (64 - c.number)

-- ---- taking the next

-- a cursor at a glyph of which an action is left
pub record AtHand (c : VerdictCursor) : Type 0 where
  pub begun : 0 < c.next
  pub few : c.next ≤ 1024
  pub some : 0 < c.fires
  pub low : c.fires < 2 ^ (64 - c.number)

-- the first that is left of that glyph is taken, and the cursor is past it
pub record Takes (c : VerdictCursor) (verdict : Verdict) (past : VerdictCursor) : Type 0 where
  pub first : tell_at c ≡ verdict ∷ tell_at past
  pub stays : past.next ≡ c.next
  pub number : past.number ≤ 64
  pub low : past.fires < 2 ^ (64 - past.number)

-- ---- keeping those of a glyph

-- those of no action
abbrev pub no_bits : GlyphBits
no_bits = record { fires = 0; substitutes = 0; firing = 0 }

-- the bit of an action that was judged, beside those of the actions ahead of it
abbrev pub note_action : Fires → ℕ → GlyphBits → GlyphBits
note_action No bit b = b
note_action Plain bit b = record { fires = b.fires + bit; substitutes = b.substitutes; firing = b.firing + 1 }
note_action Substitutes bit b = record { fires = b.fires + bit; substitutes = b.substitutes + bit; firing = b.firing + 1 }

-- so many actions, the first of which stands at `first`, that have no fault, for a font of some number of glyphs
pub record ClearList (t : List ℕ) (count first : ℕ) : Type 0 where
  pub font : ℕ
  pub short : length t ≤ 32768
  pub clear : actions_fault t font count first ≡ Clear
  pub few : count ≤ 64

-- the bits tell which of these actions fire for a glyph of a class, at its growth and its point size, wherever it stands in its line; and how many fire
pub record Keeps (class : ℕ) (growth : ℤ) (size : ℕ) (actions : List Action) (b : GlyphBits) : Type 0 where
  pub told : (place : ℕ) → tell_from place 0 b.fires b.substitutes ≡ firings place class size growth 0 actions
  pub firing : (place : ℕ) → b.firing ≡ length (firings place class size growth 0 actions)
  pub few : b.firing ≤ 64
