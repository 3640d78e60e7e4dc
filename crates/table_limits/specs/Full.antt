-- A table at every upper limit at once (document 01, "The table"), put together from small pieces: 32,768 bytes long; clusters of 128 pairs with limits of
-- 16 em and priority 3; a list of 64 actions, of class 127, with 32 components, type 5 and the greatest length; a machine of 255 classes and one of 256
-- rows; lookups whose closing unit is counted. Offsets stand as plain numbers: `full-parts` of the proofs says what stands where.
use Rattle.std.specs.Prelude.{ℕ, zero, suc, ◌+◌, ◌<◌, ◌≡◌, List, [], ◌∷◌, ◌++◌, length, replicate}
use Rattle.fields.specs.Field.{u16_at, u32_at, be16, be32}
use Rattle.machine.specs.Rows.{row_count}

unfoldable pub zeros : ℕ → List ℕ
zeros n = replicate n 0

-- ---- the cluster, 3,076 bytes

-- a pair of 24 bytes: grow limits of 16 em, shrink limits of 16 em and −16 em, unlimited growth, priority 3 both ways
unfoldable pub pair_of : ℕ → List ℕ
pair_of class =
    0 ∷ 0 ∷ 0 ∷ class ∷ (be32 0x00100000 ++ be32 0x00100000 ++ be32 0x00100000 ++ be32 0xFFF00000 ++ be16 0x1003 ++ be16 0x0003)

-- n pairs, the first of class c, each of the class after the one before it
unfoldable pub pairs : ℕ → ℕ → List ℕ
pairs zero c = []
pairs (suc n) c = pair_of c ++ pairs n (c + 1)

-- 128 pairs, of the classes 0 to 127
unfoldable pub full_cluster : List ℕ
full_cluster = be32 128 ++ pairs 128 0

-- ---- the action list, 844 bytes

-- class 127, type 0, length 84: lower and upper limit, order, 32 components, all of them glyph 0
unfoldable pub break_head : List ℕ
break_head = be16 127 ++ be16 0 ++ be32 84 ++ be32 0 ++ be32 0 ++ be16 0 ++ be16 32

unfoldable pub break : List ℕ
break = break_head ++ zeros 64

-- class 127, type 5, length 12: flags, glyph 0
unfoldable pub repeated : List ℕ
repeated = be16 127 ++ be16 5 ++ be32 12 ++ be16 0xFFFF ++ be16 0

-- the same with the greatest length that is a multiple of 4, far past the end of any table
unfoldable pub longest : List ℕ
longest = be16 127 ++ be16 5 ++ be32 0xFFFFFFFC ++ be16 0xFFFF ++ be16 0

unfoldable pub copies : ℕ → List ℕ
copies zero = []
copies (suc n) = repeated ++ copies n

-- 64 actions
unfoldable pub full_list : List ℕ
full_list = be32 64 ++ (break ++ (copies 62 ++ longest))

-- ---- a machine of 255 classes, 527 bytes after its header

-- class table at 8, state array at 13, entry table at 523
unfoldable pub wide_head : List ℕ
wide_head = be16 255 ++ be16 8 ++ be16 13 ++ be16 523

-- one glyph, 0, of class 254
unfoldable pub wide_classes : List ℕ
wide_classes = be16 0 ++ be16 1 ++ (254 ∷ [])

-- entry 0 leads to row 1
unfoldable pub wide_entry : List ℕ
wide_entry = be16 268 ++ be16 0xFFFF

-- two rows of 255 cells, all of entry 0
unfoldable pub wide_machine : List ℕ
wide_machine = wide_head ++ (wide_classes ++ (zeros 510 ++ wide_entry))

-- ---- a machine of 256 rows, 1,044 bytes after its header

-- 4 classes, class table at 8, state array at 12, entry table at 1,036; the class table has no glyph
unfoldable pub tall_head : List ℕ
tall_head = be16 4 ++ be16 8 ++ be16 12 ++ be16 1036 ++ be16 0 ++ be16 0

-- entry 0 leads to row 0, entry 1 to row 255
unfoldable pub tall_entries : List ℕ
tall_entries = be16 12 ++ be16 0xFFFF ++ be16 1032 ++ be16 0xFFFF

-- 256 rows of 4 cells: the first cell of row 0 has entry 1, all others have entry 0
unfoldable pub tall_machine : List ℕ
tall_machine = tall_head ++ ((1 ∷ []) ++ (zeros 1023 ++ tall_entries))

-- ---- the table

-- a lookup of format 6, 20 bytes: glyph 0 has a value, and the closing unit is counted
unfoldable pub lookup_of : ℕ → List ℕ
lookup_of value = be16 6 ++ be16 4 ++ be16 2 ++ be16 0 ++ be16 0 ++ be16 0 ++ be16 0 ++ be16 value ++ be16 0xFFFF ++ be16 0

-- the horizontal direction at 10, the vertical one at 36
unfoldable pub header : List ℕ
header = be32 0x00010000 ++ be16 0 ++ be16 10 ++ be16 36

-- the offsets of a direction's machine, of the clusters and of the action lookup
unfoldable pub offsets : ℕ → List ℕ
offsets machine = be16 machine ++ be16 62 ++ be16 4725

-- horizontal and vertical direction at 10 and 36, the cluster at 62, the machines at 3,138 and 3,673, the action lookup at 4,725, the list 20 bytes past it; zeros
-- up to 32,768 bytes
unfoldable pub full_table : List ℕ
full_table =
    header
    ++ (offsets 3138
    ++ (lookup_of 0
    ++ (offsets 3673
    ++ (lookup_of 0
    ++ (full_cluster
    ++ (zeros 8
    ++ (wide_machine
    ++ (zeros 8
    ++ (tall_machine
    ++ (lookup_of 20
    ++ (full_list
    ++ zeros 27179)))))))))))

-- what the table counts at these places
pub record AtLimits (t : List ℕ) : Type 0 where
  pub long : length t ≡ 32768
  -- the cluster's pairs
  pub pairs : u32_at t 62 ≡ 128
  -- the list's actions, the components of its first action, and its last action, which ends past the table
  pub actions : u32_at t 4745 ≡ 64
  pub components : u16_at t 4767 ≡ 32
  pub past : length t < 5577 + u32_at t 5581
  -- the classes of the one machine, and the row count of the other
  pub classes : u16_at t 3146 ≡ 255
  pub rows : row_count t 3681 ≡ 256
  -- the last unit that the horizontal width lookup counts
  pub closing : u16_at t 32 ≡ 65535
