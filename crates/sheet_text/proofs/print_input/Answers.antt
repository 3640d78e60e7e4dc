-- `sheet_text::print_input` meets its contract.
use native.Mathlib.Omega.{arith}
use mathlib.Core.Path.{sym, subst}
use Prim.Native.Nat.{ℕ}
use mathlib.Core.List.{List}
use Rattle.sheet_text.specs.Stored.{Printed}
use Rattle.sheet_text.proofs.Laws.{text-short, text-long, text-table}
use Rattle.sheet_text.proofs.print_input.Goals as goal

pub returns-then-length-lt2 : goal.returns-then-length-lt2
returns-then-length-lt2 c =
    let a = c.args in
    let p = c.print_refusal in
    subst (λ (text : List ℕ). Printed text a.out.now p.new.out p.result) (sym (text-short a.input.now (omega arith))) p.ensures

pub returns-then-length-gt65536 : goal.returns-then-length-gt65536
returns-then-length-gt65536 c =
    let a = c.args in
    let p = c.print_refusal-then-length-gt65536 in
    subst (λ (text : List ℕ). Printed text a.out.now p.new.out p.result) (sym (text-long a.input.now (omega arith) (omega arith))) p.ensures

pub returns : goal.returns
returns c =
    let a = c.args in
    let p = c.print_table in
    subst (λ (text : List ℕ). Printed text a.out.now p.new.out p.result)
    (text-table a.input.now c.u16_at-count.result c.u16_at-count.ensures.0 (omega arith) (omega arith))
    p.ensures
