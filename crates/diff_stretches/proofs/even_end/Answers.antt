-- `diff_stretches::even_end` meets its contract.
use Rattle.diff_stretches.proofs.Laws.{even-before, even-array, even-one}
use Prim.Native.Nat.{◌+◌}
use native.Mathlib.Omega.{arith}
use mathlib.Core.Path.{refl}
use Rattle.diff_stretches.proofs.even_end.Goals as goal

pub returns-then-glyph-run : goal.returns-then-glyph-run
returns-then-glyph-run c = let a = c.args in even-before a.run a.glyph c.min.result c.requires c.if-glyph-run.true c.min.ensures

pub returns-then-run : goal.returns-then-run
returns-then-run c = let a = c.args in even-array a.run a.glyph (a.glyph + 1) c.requires refl

pub returns : goal.returns
returns c = let a = c.args in even-one a.run a.glyph a.run.until c.requires (omega (arith, c.if-glyph-run.false)) c.if-run.false refl
