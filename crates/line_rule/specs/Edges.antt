-- A glyph's edges on its line (document 02, request 1/14), in units from the line's start; and a line under another target.
use Rattle.std.specs.Prelude.{ℕ, List, ℤ, pos, ◌+ℤ◌, take, get_or}
use Rattle.share.specs.Line.{sumℤ}
use Rattle.line_rule.specs.Line.{Line}

-- the left edge of the glyph at place i: all advances and movements ahead of it, plus its own before movement
abbrev pub left_edge : List ℤ → List ℤ → List ℤ → ℕ → ℤ
left_edge advances before after i = sumℤ (take i advances) +ℤ sumℤ (take i before) +ℤ sumℤ (take i after) +ℤ get_or before i (pos 0)

-- its right edge: that plus its advance and after movement
abbrev pub right_edge : List ℤ → List ℤ → List ℤ → ℕ → ℤ
right_edge advances before after i = left_edge advances before after i +ℤ get_or advances i (pos 0) +ℤ get_or after i (pos 0)

-- the same line, to be as wide as another target
abbrev pub aimed : Line → ℤ → Line
aimed l target =
    record { direction = l.direction; starts = l.starts; ends = l.ends; sizes = l.sizes; glyphs = l.glyphs; advances = l.advances; target = target; edition = l.edition }
