-- The struct and the lent buffers of a line's call, from what each of its three steps promises.
use Prim.Native.Nat.{ℕ}
use mathlib.Core.Path.{◌≡◌, ap, ◌∙◌}
use mathlib.Core.List.{List}
use lib.IntN.{ℤ}
use Rattle.types.specs.declared.Verdict.{Verdict}
use Rattle.line_rule.specs.declared.LineShape.{LineShape}
use Rattle.std.specs.Prelude.{Result}
use Rattle.fields.specs.declared.Fault.{Fault}
use Rattle.line_call.specs.declared.Justified.{Justified}
use Rattle.line_call.specs.Justified.{Lent, says_line, justified}
use Rattle.line_rule.specs.Shape.{line_by}
use Rattle.line_justify.specs.Outcome.{outcome_is}
use Rattle.just_line.specs.declared.JustLine.{JustLine}
use Rattle.just_line.specs.LineInC.{line_in, called_in, called_is}

-- the shape is the one that is handed in, the answer and the buffers are the line's, the struct is the answer's
pub called : (t : List ℕ) (count : ℕ) {shape shape' : LineShape} (sizes glyphs : List ℕ) (advances : List ℤ) (lent : Lent)
    (r : JustLine) (answer : Result Justified Fault) (classes : List ℕ) (before after : List ℤ) (verdicts : List Verdict)
    → shape ≡ shape'
    → outcome_is answer classes before after verdicts ≡ justified t count (line_by shape sizes glyphs advances) lent
    → r ≡ line_in (says_line answer)
    → called_is r classes before after verdicts ≡ called_in (justified t count (line_by shape' sizes glyphs advances) lent)
called t count sizes glyphs advances lent r answer classes before after verdicts shaped justifies out =
    ap (λ (x : JustLine). called_is x classes before after verdicts) out
    ∙ ap called_in (justifies ∙ ap (λ (x : LineShape). justified t count (line_by x sizes glyphs advances) lent) shaped)
