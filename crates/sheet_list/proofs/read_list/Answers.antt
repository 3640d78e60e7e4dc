-- `sheet_list::read_list` meets its contract: as many actions as the count says, and the count is 1 to 64. Assumes nothing.
use Rattle.std.proofs.Common.{arith}
use Rattle.sheet_list.proofs.ListLaws.{list-short, list_count, list-parse}
use Rattle.sheet_list.proofs.read_list.Goals as goal

pub returns-in_err-count : goal.returns-in_err-count
returns-in_err-count c =
    let a = c.args in
    rw c.from_residual.ensures (list-short a.glyphs a.bytes.now a.at (λ room. c.in_err-count.ensures (omega arith)))

pub returns-then-count-eq0 : goal.returns-then-count-eq0
returns-then-count-eq0 c =
    let a = c.args in
    list_count a.glyphs a.bytes.now a.at (λ i. omega (arith, c.type_inv.bytes i)) (omega (arith, c.in_ok-count.ensures.0))
    c.in_ok-count.count c.in_ok-count.ensures.1 (λ x y. omega arith)

pub returns-then-count-gt64 : goal.returns-then-count-gt64
returns-then-count-gt64 c =
    let a = c.args in
    list_count a.glyphs a.bytes.now a.at (λ i. omega (arith, c.type_inv.bytes i)) (omega (arith, c.in_ok-count.ensures.0))
    c.in_ok-count.count c.in_ok-count.ensures.1 (λ x y. omega arith)

pub returns : goal.returns
returns c =
    let a = c.args in
    list-parse a.glyphs a.bytes.now a.at (λ i. omega (arith, c.type_inv.bytes i)) (omega (arith, c.in_ok-count.ensures.0))
    c.in_ok-count.count c.in_ok-count.ensures.1 (omega arith) (omega arith) c.read_actions.result c.read_actions.ensures
