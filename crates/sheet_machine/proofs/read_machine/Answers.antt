-- `sheet_machine::read_machine` meets its contract: no machine, one with what stands within it, or neither. Assumes nothing.
use Rattle.std.proofs.Common.{arith}
use Rattle.sheet_machine.proofs.MachineLaws.{machine-none, machine-absent, machine-parse}
use Rattle.sheet_machine.proofs.read_machine.Goals as goal

pub returns-then-no_machine : goal.returns-then-no_machine
returns-then-no_machine c =
    let a = c.args in
    machine-none a.bytes.now (λ i. omega (arith, c.type_inv.bytes i)) a.glyphs a.at c.if-no_machine.ensures

pub returns-in_err-grid : goal.returns-in_err-grid
returns-in_err-grid c =
    let a = c.args in
    rw c.from_residual.ensures
    (machine-absent a.bytes.now (λ i. omega (arith, c.type_inv.bytes i)) a.glyphs a.at c.if-no_machine.ensures c.in_err-grid.ensures)

pub returns : goal.returns
returns c =
    let a = c.args in
    let g = c.in_ok-grid.ensures in
    machine-parse a.bytes.now (λ i. omega (arith, c.type_inv.bytes i)) a.glyphs a.at g.0 c.in_ok-grid.grid.rows c.in_ok-grid.grid.classes g.1 g.2 c.read_within.result c.read_within.ensures
