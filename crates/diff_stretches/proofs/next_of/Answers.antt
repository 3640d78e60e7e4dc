-- `diff_stretches::next_of` meets its contract.
use Rattle.diff_stretches.proofs.Laws.{follows-tells, absent-tells}
use Rattle.diff_stretches.specs.Stretches.{RunTells}
use Rattle.lookup_targets.specs.declared.Source.{Source}
use Rattle.lookup_runs.specs.declared.Run.{Run}
use Prim.Native.Nat.{◌<◌}
use Rattle.std.specs.Prelude.{Option}
use mathlib.Core.Path.{refl, sym, subst}
use mathlib.Core.Bool.{false}
use Rattle.diff_stretches.proofs.next_of.Goals as goal

pub returns-in-Some : goal.returns-in-Some
returns-in-Some c =
    let a = c.args in
    let p = c.requires in
    let r = c.next_run.result in
    subst (λ (s : Option Source). RunTells a.kind a.table.now a.glyphs s a.glyph r × (a.glyph < r.until)) (sym c.in-Some.is)
    (follows-tells a.kind a.table.now a.glyphs a.glyph p.0 p.1 c.in-Some.source r c.next_run.ensures.1)

pub returns-in-None : goal.returns-in-None
returns-in-None c =
    let a = c.args in
    let p = c.requires in
    let r : Run = record { from = 65536; until = 65537; place = 0; array = false; cursor = a.cursor } in
    subst (λ (s : Option Source). RunTells a.kind a.table.now a.glyphs s a.glyph r × (a.glyph < r.until)) (sym c.in-None.is)
    (absent-tells a.kind a.table.now a.glyphs a.glyph p.0 p.1 p.2 r refl refl refl)
