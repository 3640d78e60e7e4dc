-- Small fonts: what opening each of them answers, computed.
use Rattle.fields.specs.Faults.{earlier}
use mathlib.Core.Path.{◌≡◌, refl}
use lib.ListN.{take}
use Rattle.fields.specs.Field.{u16_at, u32_at}
use Rattle.fields.specs.Faults.{◌then◌, rule, inside}
use Rattle.table.specs.Table.{present, header_fault, offsets_fault, direction_fault, table_fault}
use Rattle.font_directory.specs.Sum.{word_sum, checksum_of}
use Rattle.font_directory.specs.Directory.{first_from, first_listed, table_of}
use Rattle.font_open.specs.Opened.{inside_fault, sum_fault, extents_fault, sums_fault, tables_fault, opened, refused, directory_fault, font_opened}
use Rattle.font_laws.specs.Samples.{whole_font, twice_listed, without_maxp, without_just, exact_maxp, far_maxp, empty_just, short_maxp, neighbour_sum, short_sum, new_version, new_version_wrong_sum, stray_direction}

-- 'just' stands at 44 and has 10 bytes, and there are 3 glyphs
pub whole : font_opened whole_font ≡ opened 44 10 3
unfolding whole_font u16_at u32_at earlier rule word_sum checksum_of first_from first_listed table_of inside_fault sum_fault extents_fault sums_fault tables_fault directory_fault font_opened present header_fault direction_fault table_fault
whole = refl

-- its last byte, which is the last of 'maxp', is missing
pub cut-in-maxp : font_opened (take 60 whole_font) ≡ refused 21 0
unfolding whole_font u16_at u32_at earlier rule first_from first_listed inside_fault extents_fault tables_fault directory_fault font_opened
cut-in-maxp = refl

-- the directory's last byte is missing
pub cut-in-directory : font_opened (take 43 whole_font) ≡ refused 21 0
unfolding whole_font u16_at rule directory_fault font_opened
cut-in-directory = refl

-- the first of two records counts
pub twice : font_opened twice_listed ≡ opened 60 10 3
unfolding twice_listed u16_at u32_at earlier rule word_sum checksum_of first_from first_listed table_of inside_fault sum_fault extents_fault sums_fault tables_fault directory_fault font_opened present header_fault direction_fault table_fault
twice = refl

pub missing : font_opened without_maxp ≡ refused 22 0
unfolding without_maxp u16_at u32_at rule first_from first_listed directory_fault font_opened
missing = refl

-- all four bytes of a tag count
pub missing-just : font_opened without_just ≡ refused 22 0
unfolding without_just u16_at u32_at rule first_from first_listed directory_fault font_opened
missing-just = refl

-- 21 for the directory comes before 22
pub directory-first : font_opened (take 43 without_maxp) ≡ refused 21 0
unfolding without_maxp u16_at rule directory_fault font_opened
directory-first = refl

-- 22 comes before 21 for a table: 'just', too, is not wholly in this file
pub missing-first : font_opened (take 53 without_maxp) ≡ refused 22 0
unfolding without_maxp u16_at u32_at rule first_from first_listed directory_fault font_opened
missing-first = refl

pub short-maxp : font_opened short_maxp ≡ refused 21 0
unfolding short_maxp u16_at u32_at earlier rule first_from first_listed inside_fault extents_fault tables_fault directory_fault font_opened
short-maxp = refl

-- 6 bytes are enough
pub exact-maxp : font_opened exact_maxp ≡ opened 44 10 3
unfolding exact_maxp u16_at u32_at earlier rule word_sum checksum_of first_from first_listed table_of inside_fault sum_fault extents_fault sums_fault tables_fault directory_fault font_opened present header_fault direction_fault table_fault
exact-maxp = refl

-- offset and length do not wrap
pub far-maxp : font_opened far_maxp ≡ refused 21 0
unfolding far_maxp u16_at u32_at earlier rule first_from first_listed inside_fault extents_fault tables_fault directory_fault font_opened
far-maxp = refl

-- a table without bytes is in the file, even at its end, and is the reader's to refuse
pub empty-just : font_opened empty_just ≡ refused 1 0
unfolding empty_just u16_at u32_at earlier rule word_sum checksum_of first_from first_listed table_of inside_fault sum_fault extents_fault sums_fault tables_fault directory_fault font_opened header_fault table_fault
empty-just = refl

-- no byte after a table counts in its checksum
pub neighbour : font_opened neighbour_sum ≡ refused 23 0
unfolding neighbour_sum u16_at u32_at earlier rule word_sum checksum_of first_from first_listed table_of inside_fault sum_fault extents_fault sums_fault tables_fault directory_fault font_opened
neighbour = refl

-- the last word counts, though it is not whole
pub last_word : font_opened short_sum ≡ refused 23 0
unfolding short_sum u16_at u32_at earlier rule word_sum checksum_of first_from first_listed table_of inside_fault sum_fault extents_fault sums_fault tables_fault directory_fault font_opened
last_word = refl

-- 21 for a table comes before 23
pub place-first : font_opened (take 60 neighbour_sum) ≡ refused 21 0
unfolding neighbour_sum u16_at u32_at earlier rule first_from first_listed inside_fault extents_fault tables_fault directory_fault font_opened
place-first = refl

-- a table's own refusal, which comes after 23
pub version : font_opened new_version ≡ refused 3 0
unfolding new_version u16_at u32_at earlier rule word_sum checksum_of first_from first_listed table_of inside_fault sum_fault extents_fault sums_fault tables_fault directory_fault font_opened header_fault table_fault
version = refl

pub sum_first : font_opened new_version_wrong_sum ≡ refused 23 0
unfolding new_version_wrong_sum u16_at u32_at earlier rule word_sum checksum_of first_from first_listed table_of inside_fault sum_fault extents_fault sums_fault tables_fault directory_fault font_opened
sum_first = refl

-- its offset counts from the start of 'just'
pub stray : font_opened stray_direction ≡ refused 4 10
unfolding stray_direction u16_at u32_at earlier rule inside word_sum checksum_of first_from first_listed table_of inside_fault sum_fault extents_fault sums_fault tables_fault directory_fault font_opened present header_fault offsets_fault direction_fault table_fault
stray = refl
