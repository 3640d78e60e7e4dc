-- A line of equal sizes answers as before (document 02, request 5/14): in edition 1 as the call for a line in one size did, in `OneSize`.
use Rattle.std.specs.Prelude.{ℕ, ◌<◌, ◌≡◌, true, List, [], length, replicate}
use Rattle.line_rule.specs.Line.{Line}
use Rattle.line_call.specs.Justified.{Lent, justified}
use Rattle.line_input.specs.Input.{good_size}
use Rattle.line_laws.specs.OneSize as one

-- a line in one size, handed in with that size for each of its glyphs, and in edition 1
abbrev pub in_one_size : one.Line → Line
in_one_size l =
    record {
      direction = l.direction;
      starts = l.starts;
      ends = l.ends;
      sizes = replicate (length l.glyphs) l.size;
      glyphs = l.glyphs;
      advances = l.advances;
      target = l.target;
      edition = 1;
    }

-- one glyph or more: the answer, its refusals too, and every lent buffer are what they were, whatever the table
abbrev pub AsBefore : Type 0
AsBefore = (t : List ℕ) (n : ℕ) (l : one.Line) (b : Lent) → 0 < length l.glyphs → justified t n (in_one_size l) b ≡ one.justified t n l b

-- no glyph, and so no size that could be judged: what they were in a size that was not refused
abbrev pub EmptyAsBefore : Type 0
EmptyAsBefore = (t : List ℕ) (n : ℕ) (l : one.Line) (b : Lent) → l.glyphs ≡ [] → good_size l.size ≡ true → justified t n (in_one_size l) b ≡ one.justified t n l b
