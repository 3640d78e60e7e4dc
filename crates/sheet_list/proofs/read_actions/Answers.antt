use Rattle.std.proofs.Common.{◌+◌, ◌-◌, Some, None, arith}
use Rattle.meaning.specs.Limits.{OkAction}
use Rattle.meaning.specs.Sheet.{action_code}
use Rattle.sheet_list.proofs.ListLaws.{items-first, items-end, items-stop, items-next, ok-free}
use Rattle.sheet_list.proofs.read_actions.Goals as goal

pub loop-init : goal.loop-init
loop-init c = (c.requires, items-first action_code (OkAction c.args.glyphs) c.args.bytes.now c.args.at c.args.count)

pub loop-preserved : goal.loop-preserved
loop-preserved c =
    let l = c.loop in
    let a = c.args in
    let f = c.in_ok-place.ensures in
    (f.2, λ r h. l.invariant.1 r (items-next action_code (OkAction a.glyphs) a.bytes.now (ok-free a.glyphs) l.place c.in_ok-place.place (a.count - l.counter) (a.count - (l.counter + 1)) (omega arith) f r h))

pub returns-in_err-place : goal.returns-in_err-place
returns-in_err-place c =
    let l = c.loop in
    let a = c.args in
    rw c.from_residual.ensures
    (l.invariant.1 None
    (items-stop action_code (OkAction a.glyphs) a.bytes.now l.place (a.count - l.counter) (a.count - (l.counter + 1)) (omega arith) c.in_err-place.ensures))

pub returns : goal.returns
returns c =
    let l = c.loop in
    let a = c.args in
    l.invariant.1 (Some l.place) (items-end action_code (OkAction a.glyphs) a.bytes.now l.place (a.count - l.counter) (omega arith) l.invariant.0)
