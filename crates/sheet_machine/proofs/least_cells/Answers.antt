-- `sheet_machine::least_cells` meets its contract: the cells that stand there are read where their numbers and entries stand. Assumes nothing.
use Rattle.std.proofs.Common.{ℕ, ◌+◌, ◌*◌, sym, subst, drop, arith}
use Rattle.encoding.specs.Tests.{Says}
use Rattle.sheet_machine.specs.Machine.{LeastBy, row_at, ReadableCells}
use Rattle.sheet_machine.proofs.StandLaws.{cells-readable, least-says}
use Rattle.sheet_machine.proofs.least_cells.Goals as goal

pub is_least-requires : goal.is_least-requires
is_least-requires c =
    let a = c.args in
    let s = a.bytes.now in
    let f = c.requires.1 in
    let R = cells-readable a.grid.rows a.grid.classes a.grid.within s (λ i. omega (arith, c.type_inv.bytes i)) a.at f.0 (drop c.requires.0 s) f.1 f.3 in
    subst (λ (k : ℕ). ReadableCells s (a.at + 4) (a.at + 4 + 4 * k + 4) a.grid.classes a.grid.rows) (sym c.u32_at-count.ensures.0) R

pub returns : goal.returns
returns c = λ xs rest ok h.
    let a = c.args in
    let s = a.bytes.now in
    least-says a.grid.rows a.grid.classes a.grid.within s (λ i. omega (arith, c.type_inv.bytes i)) a.at xs rest ok h c.is_least.result
    (subst (λ (k : ℕ). Says c.is_least.result (LeastBy (row_at s (a.at + 4) (a.at + 4 + 4 * k + 4)) a.grid.classes a.grid.rows)) c.u32_at-count.ensures.0 c.is_least.ensures)
