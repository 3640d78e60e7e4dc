use Rattle.std.proofs.Common.{ℕ, ◌≡◌, ◌+◌, ◌*◌, ◌≤◌, ◌<◌, ◌∙◌, ap, length, get_or, arith}
use Rattle.fields.specs.Field.{u16_at}
use Rattle.sheet_machine.specs.Machine.{row_at}
use Rattle.sheet_machine.proofs.LeastLaws.{reach-start, reach-on, reach-closed, reach-end, less-rows, few-cells}
use Rattle.sheet_machine.proofs.is_least.Goals as goal

pub loop-cell-init : goal.loop-cell-init
loop-cell-init c =
    let a = c.args in
    reach-start (row_at a.bytes.now a.entries a.cells) a.grid.classes a.grid.rows a.grid.within.some-rows

pub overflow_mul-reached : goal.overflow_mul-reached
overflow_mul-reached c =
    let g = c.args.grid in
    omega (arith, few-cells c.loop-cell.reached g.classes (omega (arith, c.loop-cell.invariant.most, g.within.few-rows)) g.within.few-classes)

pub returns-then-cell-reached : goal.returns-then-cell-reached
returns-then-cell-reached c =
    let l = c.loop-cell in
    let a = c.args in
    let g = a.grid in
    reach-closed (row_at a.bytes.now a.entries a.cells) g.classes g.rows l.reached l.cell l.invariant c.if-cell-reached.true
    (less-rows l.reached g.rows g.classes l.invariant.most (omega arith))

pub overflow_add-cells : goal.overflow_add-cells
overflow_add-cells c = omega (arith, c.requires.numbers-in)

pub overflow_add-entries : goal.overflow_add-entries
overflow_add-entries c =
    let a = c.args in
    let n : a.entries + 4 * get_or a.bytes.now (a.cells + c.loop-cell.cell) 0 + 4 ≤ length a.bytes.now = c.requires.entries-in c.loop-cell.cell (omega arith) in
    omega (arith, c.u8_at-number.ensures.0, n)

pub loop-cell-preserved : goal.loop-cell-preserved
unfolding row_at
loop-cell-preserved c =
    let l = c.loop-cell in
    let a = c.args in
    let s = a.bytes.now in
    let g = a.grid in
    let r : c.u16_at-row.result ≡ row_at s a.entries a.cells l.cell =
    c.u16_at-row.ensures.0 ∙ ap (λ (x : ℕ). u16_at s (a.entries + 4 * x)) c.u8_at-number.ensures.0 in
    let i : row_at s a.entries a.cells l.cell < g.rows = c.requires.rows_in l.cell (omega arith) in
    let h : l.cell < l.reached * g.classes = omega (arith, l.invariant.inside) in
    reach-on (row_at s a.entries a.cells) g.classes g.rows l.reached l.cell l.invariant _ (omega (arith, r)) h i

pub returns : goal.returns
returns c =
    let l = c.loop-cell in
    let a = c.args in
    reach-end (row_at a.bytes.now a.entries a.cells) a.grid.classes a.grid.rows l.reached l.cell l.invariant (omega (arith, a.grid.within.some-classes)) (omega arith)
