-- What a line's call says in C (document 01, demand 2 and "Numbers of refusal"): its answer in a struct of C layout, beside the four lent buffers.
use Rattle.std.specs.Prelude.{ℕ, Bool, List, ℤ, pos}
use Rattle.types.specs.declared.Verdict.{Verdict}
use Rattle.types.specs.InC.{direction_in}
use Rattle.line_rule.specs.declared.LineShape.{LineShape}
use Rattle.line_call.specs.Justified.{Lent, LineReply, justifies, refuses, Outcome}
use Rattle.line_call.specs.Settle.{lent_by}
use Rattle.just_line.specs.declared.JustLine.{JustLine}

-- a line but for its glyphs, their sizes and advances, as it is handed in
abbrev pub shape_in : ℕ → Bool → Bool → ℕ → ℤ → LineShape
shape_in direction starts ends edition target = record { direction = direction_in direction; starts = starts; ends = ends; target = target; edition = edition }

-- a refusal's number and offset, and zeros beside them
abbrev pub refused_in : ℕ → ℕ → JustLine
refused_in at n = record { refusal = n; offset = at; remainder = pos 0; entries = 0; verdicts = 0 }

-- refusal 0 and what is answered, or the refusal
abbrev pub line_in : LineReply → JustLine
line_in (justifies remainder entries verdicts) = record { refusal = 0; offset = 0; remainder = remainder; entries = entries; verdicts = verdicts }
line_in (refuses number at) = refused_in at number

-- the struct, and what the lent buffers hold afterwards
pub record Called : Type 0 where
  pub line : JustLine
  pub lent : Lent

-- of an outcome, and as the call has them
abbrev pub called_in : Outcome → Called
called_in o = record { line = line_in o.answer; lent = o.lent }

abbrev pub called_is : JustLine → List ℕ → List ℤ → List ℤ → List Verdict → Called
called_is r classes before after verdicts = record { line = r; lent = lent_by classes before after verdicts }
