-- A line's whole call (document 01, demand 2): its answer and its four lent buffers afterwards as one outcome.
use Rattle.std.specs.Prelude.{ℕ, List, ℤ, Result}
use Rattle.types.specs.declared.Verdict.{Verdict}
use Rattle.fields.specs.declared.Fault.{Fault}
use Rattle.line_call.specs.declared.Justified.{Justified}
use Rattle.line_call.specs.Justified.{Outcome, says_line}
use Rattle.line_call.specs.declared.Lent as slices
use Rattle.line_call.specs.Settle.{lent_by, lent_with}

abbrev pub outcome_is : Result Justified Fault → List ℕ → List ℤ → List ℤ → List Verdict → Outcome
outcome_is r classes before after verdicts = record { answer = says_line r; lent = lent_by classes before after verdicts }

abbrev pub outcome_of : Result Justified Fault → slices.Lent → List Verdict → Outcome
outcome_of r s verdicts = record { answer = says_line r; lent = lent_with s verdicts }
