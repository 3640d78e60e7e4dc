-- Laws of the structs of C layout.
use Prim.Native.Nat.{ℕ}
use mathlib.Core.List.{List}
use mathlib.Core.Path.{◌≡◌, sym, ap, ◌∙◌}
use Rattle.types.specs.declared.HeldAction.{HeldAction}
use Rattle.std.specs.Prelude.{true, Option, Some, None, Result, Ok, Err}
use Rattle.fields.specs.declared.Fault.{Fault}
use Rattle.answers.specs.Says.{Reply, says_action, room_of, room_after}
use Rattle.sheet_write.specs.Written.{Said, SheetOutcome}
use Rattle.diff_call.specs.Calls.{ListAnswer}
use Rattle.just_c.specs.declared.JustLength.{JustLength}
use Rattle.just_c.specs.declared.JustCount.{JustCount}
use Rattle.just_c.specs.InC.{count_in, action_out, action_in}
use Rattle.just_c.specs.WriterInC.{length_in, OutcomeInC, outcome_in}
use Rattle.just_c.specs.DiffInC.{ListedInC, listed_in}

-- an action's answer, with the room that its reply asks for, is the reply's struct
pub action-given : (a : Result (Option HeldAction) Fault) (r : Reply) → says_action a ≡ r → room_of a ≡ room_after r → action_out a ≡ action_in r
action-given (Ok (Some h)) r e k = ap (λ (x : HeldAction). record { refusal = 0; offset = 0; found = true; action = x }) (k ∙ ap room_after (sym e)) ∙ ap action_in e
action-given (Ok None) r e k = ap action_in e
action-given (Err f) r e k = ap action_in e

-- the same, with the room that the writer was lent
pub outcome-given : (a : JustLength) (s : Said) (after : List ℕ) (o : SheetOutcome) → a ≡ length_in s
    → ◌≡◌ {A = SheetOutcome} (record { said = s; room = after }) o
    → ◌≡◌ {A = OutcomeInC} (record { answer = a; room = after }) (outcome_in o)
outcome-given a s after o e k = cc

-- and with the room that a list of differences was lent
pub listed-given : (a : JustCount) (r : Reply) (after : List ℕ) (o : ListAnswer) → a ≡ count_in r
    → ◌≡◌ {A = ListAnswer} (record { said = r; room = after }) o
    → ◌≡◌ {A = ListedInC} (record { answer = a; room = after }) (listed_in o)
listed-given a r after o e k = cc
