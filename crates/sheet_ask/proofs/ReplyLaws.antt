-- Replies by what the check says.
use Prim.Native.Nat.{ℕ}
use mathlib.Core.Path.{◌≡◌, refl, sym, ap₂, ◌∙◌}
use mathlib.Core.List.{List}
use Rattle.std.specs.Prelude.{Err}
use Rattle.fields.specs.declared.Fault.{Fault}
use Rattle.fields.specs.Refusals.{number_of}
use Rattle.types.specs.declared.Direction.{Direction}
use Rattle.meaning.specs.Sheet.{IsSheet}
use Rattle.meaning.specs.Ask.{Question}
use Rattle.answers.specs.Says.{Judgement, accepted, barred, judged_by, Reply, refused}
use Rattle.sheet_check.specs.Check.{SheetChecked}
use Rattle.sheet_ask.specs.Calls.{SheetReply, ActionReply}

pub reply-refused : (bytes : List ℕ) (q : Question) (f : Fault) → SheetChecked bytes (judged_by (Err f)) → SheetReply bytes q (refused (number_of f.refusal) f.at)
unfolding IsSheet
reply-refused bytes q f n = record { answer = λ m v w. absurd (n.2 (m, v, w)); refusal = λ k. ap₂ refused n.0 n.1 }

-- there is one reply to a question: any two that meet the promise are equal
pub one-reply : (bytes : List ℕ) (c : Judgement) → SheetChecked bytes c → (q : Question) (r r' : Reply) → SheetReply bytes q r → SheetReply bytes q r' → r ≡ r'
unfolding IsSheet
one-reply bytes accepted (m, v, w) q r r' h h' = h.answer m v w ∙ sym (h'.answer m v w)
one-reply bytes (barred x at) n q r r' h h' = h.refusal n.2 ∙ sym (h'.refusal n.2)

-- an action's answer

pub action-refused : (bytes : List ℕ) (d : Direction) (glyph number : ℕ) (f : Fault) → SheetChecked bytes (judged_by (Err f)) → ActionReply bytes d glyph number (Err f)
action-refused bytes d glyph number f n = record { reply = reply-refused bytes _ f n; room = refl }
