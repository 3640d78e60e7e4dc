use Rattle.std.proofs.Common.{ℕ, ◌+◌, sym, ap, ap₂, ◌∙◌, arith}
use Rattle.meaning.specs.Ask.{both}
use Rattle.answers.specs.Says.{given}
use Rattle.table_ask.proofs.Asked.{no-sizes, sizes-are}
use Rattle.table_ask.proofs.Rows.{rows-most}
use Rattle.table_ask.proofs.sizes_of.Goals as goal

pub returns-then-offset-eq0 : goal.returns-then-offset-eq0
returns-then-offset-eq0 c = ap given (sym (no-sizes _ _ _ _ c.machine_in-offset.ensures.0 c.if-offset-eq0.true))

pub overflow_cast-result : goal.overflow_cast-result
overflow_cast-result c = omega (arith, c.row_count.ensures, rows-most c.args.table.now (c.machine_in-offset.result + 8))

pub returns : goal.returns
returns c = ap₂ (λ (s k : ℕ). given (both s k)) c.row_count.ensures c.class_count.ensures.0 ∙ ap given (sym (sizes-are _ _ _ _ c.machine_in-offset.ensures.0 c.if-offset-eq0.false))
