use Rattle.write_machine.proofs.Laws.{class-skipped, class-taken, class-done}
use Rattle.encoding.specs.Sections.{run_code}
use Rattle.machine.specs.Cells.{class_at}
use Rattle.encoding.specs.Runs.{Run}
use Rattle.encoding.specs.Codes.{many}
use Rattle.fields.specs.Stores.{put_next}
use Rattle.fields.specs.Field.{be16}
use lib.Seq.{sets}
use native.Mathlib.Omega.{arith}
use mathlib.Core.List.{◌++◌}
use mathlib.Core.Path.{ap, ◌∙◌}
use Prim.Native.Nat.{ℕ, ◌+◌, ◌-◌, ◌*◌}
use Rattle.write_machine.proofs.Classes.put_each.Goals as goal

pub loop-glyph-preserved-then-class-eq1 : goal.loop-glyph-preserved-then-class-eq1
loop-glyph-preserved-then-class-eq1 c =
    let o = c.args.self.now in
    let l = c.loop-glyph in
    let w = c.class_end-end in
    let e = class-skipped o.table.now o.glyphs o.here l.glyph w.result w.ensures (grind arith) in
    let more = w.ensures.more in
    let most = w.ensures.most in
    grind arith

pub loop-glyph-preserved : goal.loop-glyph-preserved
loop-glyph-preserved c =
    let o = c.args.self.now in
    let l = c.loop-glyph in
    let w = c.class_end-end in
    let e = class-taken o.table.now o.glyphs o.here l.glyph w.result w.ensures (grind arith) in
    let more = w.ensures.more in
    let most = w.ensures.most in
    let class : ℕ = class_at o.table.now o.here l.glyph in
    let run : Run ℕ = record { first = l.glyph; last = w.result - 1; value = class } in
    let f = ap (λ (v : ℕ). sets l.out (c.args.to + 6 * l.count) (be16 l.glyph ++ be16 (w.result - 1) ++ be16 v)) (c.from.ensures ∙ c.class_by-class.ensures o.here o.classes_at) in (
      omega arith,
      omega arith,
      grind arith,
      put_next (run_code run) _ _ l.out c.put_run.new.out _ (c.args.to + 6 * l.count) (c.args.to + 6 * (l.count + 1)) (ap (many run_code) e) (omega arith) (c.put_run.ensures ∙ f) l.invariant.3,
    )

pub returns : goal.returns
returns c = grind (arith, class-done)
