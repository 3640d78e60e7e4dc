-- A line's refusal has offset 0 unless its number is 4 to 8 (document 02, 4/14).
use Prim.Native.Nat.{ℕ}
use mathlib.Core.Path.{◌≡◌, refl}
use mathlib.Core.List.{List}
use Rattle.fields.specs.declared.Refusal.TheVariants.{UnequalLengths, LongLine, UnknownEdition, PointSize, Advances, UnknownGlyph, EndlessWalk, StageTotal, ShortRoom}
use Rattle.std.specs.Prelude.{Ok, Err}
use Rattle.fields.specs.Faults.{FirstFault}
use Rattle.fields.specs.Refusals.{number_of}
use Rattle.table_laws.specs.Offsets.{Offset, Placed}
use Rattle.table_laws.proofs.Placed.{placed-bad, ◌and◌, zero-at, placed-table}
use Rattle.line_rule.specs.Line.{Line}
use Rattle.line_call.specs.Justified.{Lent, side_for, refuses, worked_fault, line_fault, settled, justified}

module _ (t : List ℕ) (n : ℕ) (l : Line) (b : Lent) where
  placed-fault : Placed (line_fault t n l b)
  unfolding line_fault worked_fault
  placed-fault =
      (placed-table t n and zero-at _ UnequalLengths and zero-at _ LongLine and zero-at _ UnknownEdition and zero-at _ PointSize and zero-at _ Advances and zero-at _ UnknownGlyph
      and zero-at _ EndlessWalk and zero-at _ StageTotal)
      and zero-at _ ShortRoom

  pub placed-line : (number at : ℕ) → (justified t n l b).answer ≡ refuses number at → Offset number at
  unfolding justified
  placed-line number at e = go (line_fault t n l b) placed-fault e
    where
      go : (f : FirstFault) → Placed f → (settled f (side_for t n l) l b).answer ≡ refuses number at → Offset number at
      go (Ok u) p e = cc
      go (Err x) p e = let k : number_of x.refusal ≡ number = cc in let j : x.at ≡ at = cc in rw (k, j) at (placed-bad p refl)
