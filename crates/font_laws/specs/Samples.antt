-- Small fonts, worked out by hand (document 02, 12/14). Their version is 'true', and their search fields, which are not looked at, are FF.
use Rattle.std.specs.Prelude.{ℕ, List, [], ◌∷◌, ◌++◌, replicate}
use Rattle.fields.specs.Field.{be16, be32}
use Rattle.font_open.specs.Opened.{just, maxp}

abbrev pub header : ℕ → List ℕ
header tables = 0x74 ∷ 0x72 ∷ 0x75 ∷ 0x65 ∷ be16 tables ++ replicate 6 0xFF

abbrev pub listing : ℕ → ℕ → ℕ → ℕ → List ℕ
listing tag sum offset size = be32 tag ++ be32 sum ++ be32 offset ++ be32 size

-- A 'just' table of 10 bytes, a header alone: its words are 00010000, 00000000 and 0000, filled with 0000, and their sum 00010000.
abbrev pub just_bytes : List ℕ
just_bytes = 0 ∷ 1 ∷ 0 ∷ 0 ∷ 0 ∷ 0 ∷ 0 ∷ 0 ∷ 0 ∷ 0 ∷ []

-- A 'maxp' table of 7 bytes for 3 glyphs: FFFFF000 and 00032A, filled with 00, add up to 1 00031A00, whose carry is thrown away.
abbrev pub maxp_bytes : List ℕ
maxp_bytes = 0xFF ∷ 0xFF ∷ 0xF0 ∷ 0 ∷ 0 ∷ 3 ∷ 0x2A ∷ []

abbrev pub maxp_sum : ℕ
maxp_sum = 0x00031A00

-- A font of two tables and 61 bytes: the directory to 44, 'just' to 54 and, with no gap, 'maxp' to 61. What a record says can be given otherwise: the checksum and the bytes
-- of the first table, tag, checksum and length of the second.
abbrev pub two_tables : ℕ → List ℕ → ℕ → ℕ → ℕ → List ℕ
two_tables sum bytes tag sum2 size = header 2 ++ listing just sum 44 10 ++ listing tag sum2 54 size ++ bytes ++ maxp_bytes

unfoldable pub whole_font : List ℕ
whole_font = two_tables 0x00010000 just_bytes maxp maxp_sum 7

-- 'just' is listed twice, the second time as no bytes at 0
unfoldable pub twice_listed : List ℕ
twice_listed = header 3 ++ listing just 0x00010000 60 10 ++ listing just 0 0 0 ++ listing maxp maxp_sum 70 7 ++ just_bytes ++ maxp_bytes

-- the second table is 'maxq'
unfoldable pub without_maxp : List ℕ
without_maxp = two_tables 0x00010000 just_bytes 0x6D617871 maxp_sum 7

-- the first table is 'jusu'
unfoldable pub without_just : List ℕ
without_just = header 2 ++ listing 0x6A757375 0x00010000 44 10 ++ listing maxp maxp_sum 54 7 ++ just_bytes ++ maxp_bytes

-- 'maxp' has 6 bytes: FFFFF000 and 0003, filled with 0000
unfoldable pub exact_maxp : List ℕ
exact_maxp = two_tables 0x00010000 just_bytes maxp 0x0002F000 6

-- 'maxp' has 10 bytes at FFFFFFFC, whose end, in 32 bits, would be 6
unfoldable pub far_maxp : List ℕ
far_maxp = header 2 ++ listing just 0x00010000 44 10 ++ listing maxp maxp_sum 0xFFFFFFFC 10 ++ just_bytes ++ maxp_bytes

-- 'just' has no bytes and stands at the file's end, after 'maxp'
unfoldable pub empty_just : List ℕ
empty_just = header 2 ++ listing just 0 51 0 ++ listing maxp maxp_sum 44 7 ++ maxp_bytes

-- 'maxp' has 5 bytes, whose checksum is right
unfoldable pub short_maxp : List ℕ
short_maxp = two_tables 0x00010000 just_bytes maxp 0xFFFFF000 5

-- the checksum of 'just' as if the first bytes of 'maxp', FFFF, filled its last word
unfoldable pub neighbour_sum : List ℕ
neighbour_sum = two_tables 0x0001FFFF just_bytes maxp maxp_sum 7

-- the checksum of 'maxp' without its last word
unfoldable pub short_sum : List ℕ
short_sum = two_tables 0x00010000 just_bytes maxp 0xFFFFF000 7

-- a 'just' table of version 2, with its checksum and with another
abbrev pub version2 : List ℕ
version2 = 0 ∷ 2 ∷ 0 ∷ 0 ∷ 0 ∷ 0 ∷ 0 ∷ 0 ∷ 0 ∷ 0 ∷ []

unfoldable pub new_version : List ℕ
new_version = two_tables 0x00020000 version2 maxp maxp_sum 7

unfoldable pub new_version_wrong_sum : List ℕ
new_version_wrong_sum = two_tables 0x00010000 version2 maxp maxp_sum 7

-- a 'just' table whose horizontal direction stands past its end, at its own byte 10, which is byte 54 of the font
unfoldable pub stray_direction : List ℕ
stray_direction = two_tables 0x0001000A (0 ∷ 1 ∷ 0 ∷ 0 ∷ 0 ∷ 0 ∷ 0 ∷ 10 ∷ 0 ∷ 0 ∷ []) maxp maxp_sum 7
