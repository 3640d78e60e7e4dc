-- A 'just' table straight from a font file (document 02, 12/14): from the bytes of a whole font to the answer, refusals first and in the request's order.
use Rattle.std.specs.Prelude.{ℕ, ◌+◌, ◌≤◌, List, length, leb, eqb, Option, Some, None, Result, Ok, Err}
use Rattle.fields.specs.declared.Refusal.TheVariants.{FontEnds, MissingTable, WrongSum}
use Rattle.fields.specs.declared.Fault.{Fault}
use Rattle.fields.specs.Field.{u16_at}
use Rattle.fields.specs.Faults.{FirstFault, ◌then◌, rule}
use Rattle.fields.specs.Refusals.{number_of}
use Rattle.table.specs.Table.{table_fault}
use Rattle.font_directory.specs.declared.TableRecord.{TableRecord}
use Rattle.font_directory.specs.Sum.{checksum_of}
use Rattle.font_directory.specs.Directory.{directory_size, first_listed, table_of}
use Rattle.font_open.specs.declared.Opened.{Opened}

-- the tags, four bytes each, as 32-bit numbers: 'just' and 'maxp'
abbrev pub just : ℕ
just = 0x6A757374

abbrev pub maxp : ℕ
maxp = 0x6D617870

-- where the glyph count stands in 'maxp', 16 bits, and the least length that holds it
abbrev pub count_offset : ℕ
count_offset = 4

abbrev pub least_maxp : ℕ
least_maxp = 6

abbrev pub glyph_count_of : List ℕ → TableRecord → ℕ
glyph_count_of font m = u16_at (table_of font m) count_offset

-- the bytes that a record names are wholly in the file; offset and length are plain numbers, whose sum does not wrap
abbrev pub Inside : List ℕ → TableRecord → Type 0
Inside font r = r.offset + r.length ≤ length font

-- 21 unless they are
unfoldable pub inside_fault : List ℕ → TableRecord → FirstFault
inside_fault font r = rule (leb (r.offset + r.length) (length font)) FontEnds 0

-- 23 unless their checksum is the one that the record has
unfoldable pub sum_fault : List ℕ → TableRecord → FirstFault
sum_fault font r = rule (eqb (checksum_of (table_of font r)) r.sum) WrongSum 0

-- "21, one is not wholly in the file, or 'maxp' is under 6 bytes"; the record of 'just' is `j`, that of 'maxp' `m`
unfoldable pub extents_fault : List ℕ → TableRecord → TableRecord → FirstFault
extents_fault font j m = inside_fault font j then inside_fault font m then rule (leb least_maxp m.length) FontEnds 0

-- "23, a checksum disagrees"
unfoldable pub sums_fault : List ℕ → TableRecord → TableRecord → FirstFault
sums_fault font j m = sum_fault font j then sum_fault font m

-- both before the refusals of document 01, which are those of the bytes of 'just', read with the count
unfoldable pub tables_fault : List ℕ → TableRecord → TableRecord → FirstFault
tables_fault font j m = extents_fault font j m then sums_fault font j m then table_fault (table_of font j) (glyph_count_of font m)

-- what an answer says: the offset and the length of 'just' and the glyph count; or a refusal's number and, for 4 to 8, its offset from the start of 'just'
pub data FontReply : Type 0 where
  opened : ℕ → ℕ → ℕ → FontReply
  refused : ℕ → ℕ → FontReply

abbrev pub says_font : Result Opened Fault → FontReply
says_font (Ok o) = opened o.offset o.length o.count
says_font (Err f) = refused (number_of f.refusal) f.at

abbrev pub opened_unless : FirstFault → FontReply → FontReply
opened_unless (Ok u) reply = reply
opened_unless (Err f) reply = refused (number_of f.refusal) f.at

-- 22 where one of the two is missing
abbrev pub opened_by : List ℕ → Option TableRecord → Option TableRecord → FontReply
opened_by font (Some j) (Some m) = opened_unless (tables_fault font j m) (opened j.offset j.length (glyph_count_of font m))
opened_by font (Some j) None = refused (number_of MissingTable) 0
opened_by font None m = refused (number_of MissingTable) 0

-- 21 unless the directory is wholly in the file
unfoldable pub directory_fault : List ℕ → FirstFault
directory_fault font = rule (leb (directory_size font) (length font)) FontEnds 0

unfoldable pub font_opened : List ℕ → FontReply
font_opened font = opened_unless (directory_fault font) (opened_by font (first_listed font just) (first_listed font maxp))
