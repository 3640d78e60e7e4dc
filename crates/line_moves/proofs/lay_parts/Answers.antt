-- `line_moves::lay_parts` meets its contract.
use native.Mathlib.Omega.{arith}
use Rattle.cluster.specs.Pairs.{sought_pair}
use Rattle.table.specs.Means.{meaning_of}
use Rattle.meaning.specs.Ask.{side_of}
use Rattle.line_moves.proofs.Parts.{parts-count, may-lay, comes-next, filling-start, filling-on, summing_start, summing_on}
use Rattle.line_moves.proofs.lay_parts.Goals as goal

pub loop-i-init : goal.loop-i-init
loop-i-init c =
    let a = c.args in
    let p = c.requires in
    let q = parts-count (side_of a.line.shape.direction (meaning_of a.table.now a.count)) a.shrink p.sharable in
    (filling-start _ _ _ (omega (arith, q, p.room.0)) (omega (arith, q, p.room.1)), summing_start _)

pub loop-i-preserved : goal.loop-i-preserved
loop-i-preserved c =
    let a = c.args in
    let w = c.requires.sharable in
    let s = side_of a.line.shape.direction (meaning_of a.table.now a.count) in
    let l = c.loop-i in
    let q = parts-count s a.shrink w in
    let p = c.part_of-part.result in
    let e = c.part_of-part.ensures in
    let r = c.record_for-sought.ensures in
    let n = comes-next s a.shrink w p l.i _ e r.0 (omega arith) in
    let y = c.lay_part.ensures in
    (filling-on l.invariant.0 y (omega (arith, q)) n, summing_on l.invariant.1 (may-lay s a.shrink w p l.i (sought_pair c.record_for-sought.result) e r.1) y.sum n)
