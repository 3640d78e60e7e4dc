-- What is lent to a line's call, and all that it settles before the verdicts are stored (document 01, demand 2): the answer, how many verdicts there are to store,
-- what the lent classes and movements hold, and where the verdicts are told until then.
use Rattle.std.specs.Prelude.{ℕ, ◌*◌, ◌≤◌, ◌≡◌, List, ℤ, length, take, Result}
use Rattle.types.specs.declared.Verdict.{Verdict}
use Rattle.line_verdicts.specs.Bits.{told}
use Rattle.line_call.specs.declared.Lent as slices
use Rattle.fields.specs.declared.Fault.{Fault}
use Rattle.line_call.specs.declared.Justified.{Justified}
use Rattle.line_call.specs.Justified.{Lent, LineReply, justifies, refuses, says_line, Outcome}

-- what is lent, as the call has it
abbrev pub lent_by : List ℕ → List ℤ → List ℤ → List Verdict → Lent
lent_by classes before after verdicts = record { classes = classes; before = before; after = after; verdicts = verdicts }

-- the same slices, whatever they hold
abbrev pub SameSlices : slices.Lent → slices.Lent → Type 0
SameSlices old new = (new.classes.ghost_name ≡ old.classes.ghost_name) × (new.before.ghost_name ≡ old.before.ghost_name) × (new.after.ghost_name ≡ old.after.ghost_name)

-- what they hold, with these verdicts
abbrev pub lent_with : slices.Lent → List Verdict → Lent
lent_with s = lent_by s.classes.now s.before.now s.after.now

-- the verdicts of an answer; a refusal has none
abbrev pub stored_in : LineReply → ℕ
stored_in (justifies remainder entries verdicts) = verdicts
stored_in (refuses number at) = 0

abbrev pub stored_by : Result Justified Fault → ℕ
stored_by r = stored_in (says_line r)

-- what is settled
pub record Settlement : Type 0 where
  pub answer : LineReply
  pub classes : List ℕ
  pub before : List ℤ
  pub after : List ℤ

-- of an outcome, and as the code has it
abbrev pub settlement_in : Outcome → Settlement
settlement_in o = record { answer = o.answer; classes = o.lent.classes; before = o.lent.before; after = o.lent.after }

abbrev pub settlement_is : Result Justified Fault → List ℕ → List ℤ → List ℤ → Settlement
settlement_is r classes before after = record { answer = says_line r; classes = classes; before = before; after = after }

abbrev pub settlement_of : Result Justified Fault → slices.Lent → Settlement
settlement_of r s = settlement_is r s.classes.now s.before.now s.after.now

-- room for two numbers of each glyph of a line: as many as its glyphs need unless the line is too long, and no more than the longest line needs. First it holds the
-- factors of the glyphs' sides, then the bits that tell the verdicts.
pub record BitRoom (n : ℕ) (work : List ℕ) : Type 0 where
  pub glyphs : ℕ
  pub even : length work ≡ 2 * glyphs
  pub few : glyphs ≤ 1024
  pub enough : n ≤ 1024 → n ≤ glyphs

-- the room tells n verdicts or more, the first n of which are the first n of these
pub record Tells (n : ℕ) (verdicts : List Verdict) (work : List ℕ) : Type 0 where
  pub most : n ≤ length (told work)
  pub begins : take n (told work) ≡ take n verdicts
