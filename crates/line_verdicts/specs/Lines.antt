-- The verdicts of a whole line, counted and kept (document 01, "Verdicts").
use Rattle.std.specs.Prelude.{ℕ, ◌<◌, ◌≡◌, List, length}
use Rattle.types.specs.declared.Verdict.{Verdict}
use Rattle.meaning.specs.Meaning.{Side}
use Rattle.line_rule.specs.Line.{verdicts_from}
use Rattle.line_verdicts.specs.Moves.{Moved}
use Rattle.line_verdicts.specs.Bits.{told}

-- the verdicts of a line that has these sizes, classes and movements
abbrev pub verdicts_in : Side → List ℕ → Moved → List Verdict
verdicts_in s glyphs l = verdicts_from s 0 l.sizes glyphs l.classes l.before l.after

-- so many are counted, and the bits tell them; bits of a line that has none say nothing
pub record KeepsLine (s : Side) (glyphs : List ℕ) (l : Moved) (n : ℕ) (bits : List ℕ) : Type 0 where
  pub counted : n ≡ length (verdicts_in s glyphs l)
  pub tells : 0 < n → told bits ≡ verdicts_in s glyphs l
