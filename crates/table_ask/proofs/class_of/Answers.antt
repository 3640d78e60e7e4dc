use Rattle.std.proofs.Common.{ℕ, sym, ap, ◌∙◌, arith}
use Rattle.meaning.specs.Ask.{number}
use Rattle.answers.specs.Says.{given}
use Rattle.table_ask.proofs.Asked.{class-past, no-class, class-is}
use Rattle.table_ask.proofs.class_of.Goals as goal

pub returns-then-count-from : goal.returns-then-count-from
returns-then-count-from c = ap given (sym (class-past _ _ _ _ (omega arith)))

pub returns-then-offset-eq0 : goal.returns-then-offset-eq0
returns-then-offset-eq0 c = ap given (sym (no-class _ _ _ _ c.machine_in-offset.ensures.0 _ c.if-offset-eq0.true))

pub returns : goal.returns
returns c = ap (λ (k : ℕ). given (number k)) c.class_of.ensures ∙ ap given (sym (class-is _ _ _ _ c.machine_in-offset.ensures.0 _ c.if-offset-eq0.false (omega arith)))
