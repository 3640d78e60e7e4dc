-- `machine::clear_count` meets its contract.
use Rattle.std.proofs.Common.{◌≡◌, ◌+◌, sym, ◌∙◌, arith, rules}
use Rattle.machine.specs.Rows.{cell_place}
use Rattle.machine.proofs.Steps.{cells-start, cells-go, cells-end, raised-starts, raised-goes, raised-ends, met_next}
use Rattle.machine.proofs.clear_count.Goals as goal

pub loop-class-init : goal.loop-class-init
loop-class-init c = (cells-start _ _ _ _ _ c.grid_of-grid.ensures.classes, raised-starts _ _ _ _ _ c.grid_of-grid.ensures.classes, c.requires.met_clear)

pub returns-in_err-rows : goal.returns-in_err-rows
returns-in_err-rows c =
    let a = c.args in
    let l = c.loop-class in
    let place : c.cell_place-first.result + l.class ≡ cell_place a.table.now a.here a.row l.class = omega (arith, c.cell_place-first.ensures.0) in
    let w = c.clear_cell.ensures a.here a.row l.class c.grid_of-grid.ensures place l.invariant.2 in
    (search rules, rw l.invariant.1 (met_next _ _ _ _ _ _ c.loop-class-test.true w.1))

pub loop-class-preserved : goal.loop-class-preserved
loop-class-preserved c =
    let a = c.args in
    let l = c.loop-class in
    let place : c.cell_place-first.result + l.class ≡ cell_place a.table.now a.here a.row l.class = omega (arith, c.cell_place-first.ensures.0) in
    let w = c.in_ok-rows.ensures a.here a.row l.class c.grid_of-grid.ensures place l.invariant.2 in (
      l.invariant.0 ∙ cells-go _ _ _ _ _ _ _ tt c.loop-class-test.true w.0.0 w.0.1,
      l.invariant.1 ∙ raised-goes _ _ _ _ _ _ _ c.loop-class-test.true w.0.1,
      rw w.0.1 w.1,
    )

pub returns : goal.returns
returns c =
    let l = c.loop-class in
    (sym (l.invariant.0 ∙ cells-end _ _ _ _ _ _ c.loop-class-test.false), rw (l.invariant.1 ∙ raised-ends _ _ _ _ _ _ c.loop-class-test.false) l.invariant.2)
