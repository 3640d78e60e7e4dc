-- A line from what its call is told in numbers and the slices that are lent with it (document 01, demand 2).
use Rattle.std.specs.Prelude.{ℕ, List, ℤ}
use Rattle.line_rule.specs.declared.LineShape.{LineShape}
use Rattle.line_rule.specs.declared.LineView.{LineView}
use Rattle.line_rule.specs.Line.{Line}

abbrev pub line_by : LineShape → List ℕ → List ℕ → List ℤ → Line
line_by shape sizes glyphs advances =
    record {
      direction = shape.direction;
      starts = shape.starts;
      ends = shape.ends;
      sizes = sizes;
      glyphs = glyphs;
      advances = advances;
      target = shape.target;
      edition = shape.edition;
    }

-- a line as it is lent
abbrev pub line_in : LineView → Line
line_in v = line_by v.shape v.sizes.now v.glyphs.now v.advances.now
