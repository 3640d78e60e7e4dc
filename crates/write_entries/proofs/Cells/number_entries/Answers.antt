use Rattle.write_entries.proofs.Laws.{turn-first, turn-old, turn-new, turn-last, space}
use Rattle.std.specs.Prelude.{Some, None}
use lib.ListN.{get_or, length-set}
use mathlib.Core.Path.{◌≡◌, ◌∙◌}
use native.Mathlib.Omega.{arith}
use Rattle.write_entries.proofs.Cells.number_entries.Goals as goal

pub loop-i-init : goal.loop-i-init
loop-i-init c =
    let s = c.args.self.now in
    (omega arith, omega arith, omega arith, rw c.requires (turn-first s.table.now s.here s.count c.args.firsts.now 256))

pub overflow_cast-sheet : goal.overflow_cast-sheet
overflow_cast-sheet c =
    let s = c.args.self.now in
    let l = c.loop-i in
    let q = c.stored_at-stored in
    let unknown : get_or l.sheet q.result None ≡ None = grind arith in
    omega (arith, space s.table.now s.here s.count l.firsts l.sheet l.k l.i (omega arith) l.invariant.3 q.result c.loop-i-test.true q.ensures c.index_of-n.result (omega arith) unknown c.index_of-n.ensures)

pub loop-i-preserved-then-n-k : goal.loop-i-preserved-then-n-k
loop-i-preserved-then-n-k c =
    let s = c.args.self.now in
    let l = c.loop-i in
    let q = c.stored_at-stored in
    let n = c.index_of-n.result in
    let unknown : get_or l.sheet q.result None ≡ None = grind arith in (
      l.invariant.0,
      l.invariant.1,
      length-set l.sheet _ (Some n) ∙ l.invariant.2,
      rw c.from-at.ensures
          (turn-old s.table.now s.here s.count l.firsts l.sheet l.k l.i (omega arith) l.invariant.3 q.result c.loop-i-test.true q.ensures n (omega arith) unknown c.index_of-n.ensures c.if-n-k.true),
    )

pub bounds-firsts-k : goal.bounds-firsts-k
bounds-firsts-k c =
    let s = c.args.self.now in
    let l = c.loop-i in
    let q = c.stored_at-stored in
    let unknown : get_or l.sheet q.result None ≡ None = grind arith in
    omega (arith, space s.table.now s.here s.count l.firsts l.sheet l.k l.i (omega arith) l.invariant.3 q.result c.loop-i-test.true q.ensures c.index_of-n.result (omega arith) unknown c.index_of-n.ensures)

pub loop-i-preserved : goal.loop-i-preserved
loop-i-preserved c =
    let s = c.args.self.now in
    let l = c.loop-i in
    let q = c.stored_at-stored in
    let n = c.index_of-n.result in
    let unknown : get_or l.sheet q.result None ≡ None = grind arith in
    let room = space s.table.now s.here s.count l.firsts l.sheet l.k l.i (omega arith) l.invariant.3 q.result c.loop-i-test.true q.ensures n (omega arith) unknown c.index_of-n.ensures in (
      omega arith,
      length-set l.firsts _ q.result ∙ l.invariant.1,
      length-set l.sheet _ (Some n) ∙ l.invariant.2,
      rw c.from-at.ensures
          (turn-new s.table.now s.here s.count l.firsts l.sheet l.k l.i (omega arith) l.invariant.3 q.result c.loop-i-test.true q.ensures n (omega arith) unknown c.index_of-n.ensures (omega arith) c.if-n-k.false),
    )

pub returns : goal.returns
returns c =
    let s = c.args.self.now in
    let l = c.loop-i in
    turn-last s.table.now s.here s.count l.firsts l.sheet l.k l.i (omega arith) l.invariant.3 (omega arith) l.invariant.0
