-- Two meanings that answer alike (document 01, "The sheet": two tables mean the same when every part is the same). Answers are compared for the
-- questions that a call can be asked: glyphs, rows, classes of the machine and numbers of actions are 16-bit, a record's class is 8-bit.
use Rattle.std.specs.Prelude.{◌<◌, ◌^◌, ◌≡◌}
use Rattle.meaning.specs.Meaning.{Meaning}
use Rattle.meaning.specs.Ask.{Part, sizes, class, cell, width, action, Question, glyph_count, along, ask}

abbrev pub AskedPart : Part → Type 0
AskedPart sizes = Unit {0}
AskedPart (class g) = g < 2 ^ 16
AskedPart (cell r c) = (r < 2 ^ 16) × (c < 2 ^ 16)
AskedPart (width g c) = (g < 2 ^ 16) × (c < 2 ^ 8)
AskedPart (action g k) = (g < 2 ^ 16) × (k < 2 ^ 16)

abbrev pub Asked : Question → Type 0
Asked glyph_count = Unit {0}
Asked (along d p) = AskedPart p

abbrev pub Same : Meaning → Meaning → Type 0
Same m m' = (q : Question) → Asked q → ask m q ≡ ask m' q
