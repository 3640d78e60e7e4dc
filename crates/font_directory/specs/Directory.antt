-- The directory of a whole font (document 02, 12/14). Its version, the first 4 bytes, is not looked at; the count of tables stands at byte 4, and from byte 12 on
-- a record of 16 bytes for each table: tag, checksum, offset and length, 32 bits each.
use Rattle.std.specs.Prelude.{ℕ, zero, suc, ◌+◌, ◌*◌, cond, List, take, drop, ◌==◌, Option, None, Some}
use Rattle.fields.specs.Field.{u16_at, u32_at}
use Rattle.font_directory.specs.declared.TableRecord.{TableRecord}

abbrev pub header_size : ℕ
header_size = 12

abbrev pub record_size : ℕ
record_size = 16

abbrev pub table_count : List ℕ → ℕ
table_count font = u16_at font 4

-- the directory's bytes
abbrev pub directory_size : List ℕ → ℕ
directory_size font = header_size + record_size * table_count font

-- the record at `p`, after its tag
abbrev pub table_record_at : List ℕ → ℕ → TableRecord
table_record_at font p = record { sum = u32_at font (p + 4); offset = u32_at font (p + 8); length = u32_at font (p + 12) }

-- the first of `n` records from `p` on that has a tag
unfoldable pub first_from : List ℕ → ℕ → ℕ → ℕ → Option TableRecord
first_from font tag zero p = None
first_from font tag (suc n) p = cond ((u32_at font p) == tag) (Some (table_record_at font p)) (first_from font tag n (p + record_size))

-- "If a tag stands twice, the first counts."
unfoldable pub first_listed : List ℕ → ℕ → Option TableRecord
first_listed font tag = first_from font tag (table_count font) header_size

-- the bytes that a record names
unfoldable pub table_of : List ℕ → TableRecord → List ℕ
table_of font r = take r.length (drop r.offset font)
