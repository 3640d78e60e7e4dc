-- `line_call::settle` meets its contract.
use Rattle.std.proofs.Common.{◌≡◌, Err, arith}
use Rattle.std.proofs.lemmas.Grind.{common_steps}
use Prim.Native.Nat.{◌*◌}
use mathlib.Core.Path.{sym, ◌∙◌}
use lib.ListN.{length, drop}
use Rattle.line_rule.specs.Line.{verdicts_of}
use Rattle.line_rule.specs.Shape.{line_in}
use Rattle.line_call.specs.Justified.{side_for}
use Rattle.line_call.proofs.Outcomes.{tells-refused, tells-longer, input-clear, whole-bad, whole-clear, room-enough, part_length}
use Rattle.line_call.proofs.settle.Goals as goal

pub returns-in_err-input_fault-clause-settled : goal.returns-in_err-input_fault-clause-settled
returns-in_err-input_fault-clause-settled c =
    let a = c.args in
    let b = a.lent.now in
    let x = c.in_err-input_fault.field-0.0 in
    let e : c.from_residual.result ≡ Err x = grind (arith, common_steps) in
    (λ verdicts h. whole-bad a.table.now a.count (line_in a.line) b.classes.now b.before.now b.after.now x c.input_fault.ensures c.in_err-input_fault.was e verdicts, tells-refused _ _ e)

pub slice_bounds-settle_with_room-end : goal.slice_bounds-settle_with_room-end
slice_bounds-settle_with_room-end c =
    let a = c.args in
    let b = a.lent.now in
    let i = input-clear a.table.now a.count (line_in a.line) b.classes.now b.before.now b.after.now c.input_fault.ensures c.in_ok-input_fault.was in
    room-enough c.requires i.judged.short

pub slice_bounds-settle_with_room-end-2 : goal.slice_bounds-settle_with_room-end-2
slice_bounds-settle_with_room-end-2 c =
    let a = c.args in
    let b = a.lent.now in
    let i = input-clear a.table.now a.count (line_in a.line) b.classes.now b.before.now b.after.now c.input_fault.ensures c.in_ok-input_fault.was in
    part_length a.work.now (2 * length a.line.glyphs.now) (room-enough c.requires i.judged.short)

pub settle_with_room-requires : goal.settle_with_room-requires
settle_with_room-requires c =
    let a = c.args in
    let b = a.lent.now in
    let i = input-clear a.table.now a.count (line_in a.line) b.classes.now b.before.now b.after.now c.input_fault.ensures c.in_ok-input_fault.was in
    (i.judged, sym (part_length a.work.now (2 * length a.line.glyphs.now) (room-enough c.requires i.judged.short)), i.room)

pub returns-clause-settled : goal.returns-clause-settled
returns-clause-settled c =
    let a = c.args in
    let b = a.lent.now in
    let l = line_in a.line in
    let f = c.input_fault.ensures in
    let q = c.in_ok-input_fault.was in
    let i = input-clear a.table.now a.count l b.classes.now b.before.now b.after.now f q in
    let n = length a.line.glyphs.now in
    let r = c.settle_with_room in
    let o = r.ensures.settled in
    let e = r.auto.work ∙ sym (part_length a.work.now (2 * n) (room-enough c.requires i.judged.short)) in
    (whole-clear a.table.now a.count l b.classes.now b.before.now b.after.now r.result f q o, tells-longer {vs = verdicts_of (side_for a.table.now a.count l) l} n r.new.work (drop (2 * n) a.work.now) e o.tells)
