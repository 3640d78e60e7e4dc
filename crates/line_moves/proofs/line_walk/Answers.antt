-- `line_moves::line_walk` meets its contract.
use Prim.Native.Nat.{ℕ, ◌+◌, ◌<◌, ◌^◌}
use mathlib.Core.List.{List}
use mathlib.Core.Path.{sym, ap, ◌∙◌}
use native.Mathlib.Omega.{arith}
use Rattle.class_walk.specs.Walk.{stopped}
use Rattle.class_walk.proofs.Line.{handed-stopped, handed-same}
use Rattle.line_rule.specs.Shape.{line_in}
use Rattle.line_moves.proofs.Walks.{no_walk_lem, a-walk, machine-clear, sound, columns}
use Rattle.line_moves.proofs.line_walk.Goals as goal

pub returns-then-offset-eq0 : goal.returns-then-offset-eq0
returns-then-offset-eq0 c =
    let a = c.args in
    let m = c.machine_in-offset in
    handed-stopped a.classes.now 0
    (no_walk_lem a.table.now a.count a.line.shape.direction m.result m.ensures.0 c.if-offset-eq0.true (line_in a.line)
    ∙ ap (λ (cs : List ℕ). stopped cs 0) (sym c.requires.zeros))

pub walk_line-requires-clause-sound_machine : goal.walk_line-requires-clause-sound_machine
walk_line-requires-clause-sound_machine c =
    let a = c.args in
    let p = c.requires in
    let m = c.machine_in-offset in
    let o = m.result in
    let clear = machine-clear a.table.now a.count a.line.shape.direction o m.ensures.0 p.judged c.if-offset-eq0.false in
    let near : o + 8 < 2 ^ 32 = omega (arith, m.ensures.1) in
    (sound a.table.now a.count (o + 8) near clear, columns a.table.now a.count (o + 8) near clear (line_in a.line) p.short p.known)

pub returns : goal.returns
returns c =
    let a = c.args in
    let p = c.requires in
    let m = c.machine_in-offset in
    handed-same
    (a-walk a.table.now a.count a.line.shape.direction m.result m.ensures.0 c.if-offset-eq0.false (omega (arith, m.ensures.1)) p.judged (line_in a.line) p.short p.known)
    c.walk_line.ensures
