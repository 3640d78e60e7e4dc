-- Every element of the table is a byte.
use Prim.Native.Nat.{ℕ, zero, suc, ◌+◌, ◌≤◌, ◌<◌}
use mathlib.Core.Path.{◌≡◌, refl}
use mathlib.Core.Bool.{Bool, true, false, ◌&&◌, false≢true}
use mathlib.Core.List.{List, [], ◌∷◌, ◌++◌}
use native.Mathlib.Omega.{arith}
use lib.Dec.{ltb}
use borrow.Author.Tests.{ltb-true}
use Rattle.fields.specs.Field.{Bytes, be16, be32}
use Rattle.table_limits.specs.Full.{zeros, pair_of, pairs, full_cluster, break_head, break, repeated, longest, copies, full_list, wide_head, wide_classes, wide_entry, wide_machine, tall_head, tall_entries, tall_machine, lookup_of, header, offsets, full_table}
use Rattle.table_limits.proofs.Tails.{from_list, from-actions, from-tall, from-wide, from-cluster, from-vertical, from-horizontal}

-- ---- lists of bytes

bytes-append : (a b : List ℕ) → Bytes a → Bytes b → Bytes (a ++ b)
bytes-append [] b p q i = q i
bytes-append (x ∷ a) b p q zero = p 0
bytes-append (x ∷ a) b p q (suc i) = bytes-append a b (λ j. p (suc j)) q i

bytes-zeros : (n : ℕ) → Bytes (zeros n)
unfolding zeros
bytes-zeros zero i = omega arith
bytes-zeros (suc n) zero = omega arith
bytes-zeros (suc n) (suc i) = bytes-zeros n i

-- of a list that is written out, by looking at each
low : List ℕ → Bool
low [] = true
low (x ∷ l) = ltb x 256 && low l

split : (a b : Bool) → (a && b) ≡ true → (a ≡ true) × (b ≡ true)
split true true e = (e, e)
split true false e = absurd (false≢true e)
split false b e = absurd (false≢true e)

bytes_low : (l : List ℕ) → low l ≡ true → Bytes l
unfolding low
bytes_low [] e i = omega arith
bytes_low (x ∷ l) e zero = ltb-true x 256 (split (ltb x 256) (low l) e).0
bytes_low (x ∷ l) e (suc i) = bytes_low l (split (ltb x 256) (low l) e).1 i

-- ---- the pieces

bytes-class : (c : ℕ) → c < 256 → Bytes (0 ∷ 0 ∷ 0 ∷ c ∷ [])
bytes-class c h zero = omega arith
bytes-class c h (suc zero) = omega arith
bytes-class c h (suc (suc zero)) = omega arith
bytes-class c h (suc (suc (suc zero))) = h
bytes-class c h (suc (suc (suc (suc i)))) = omega arith

bytes_pair : (c : ℕ) → c < 256 → Bytes (pair_of c)
unfolding pair_of low
bytes_pair c h =
    bytes-append (0 ∷ 0 ∷ 0 ∷ c ∷ []) limits (bytes-class c h) (bytes_low limits refl)
  where
    limits : List ℕ
    limits = be32 0x00100000 ++ be32 0x00100000 ++ be32 0x00100000 ++ be32 0xFFF00000 ++ be16 0x1003 ++ be16 0x0003

bytes-pairs : (n c : ℕ) → c + n ≤ 256 → Bytes (pairs n c)
unfolding pairs
bytes-pairs zero c h i = omega arith
bytes-pairs (suc n) c h i = bytes-append (pair_of c) (pairs n (c + 1)) (bytes_pair c (omega arith)) (bytes-pairs n (c + 1) (omega arith)) i

bytes-cluster : Bytes full_cluster
unfolding full_cluster low
bytes-cluster = bytes-append (be32 128) (pairs 128 0) (bytes_low (be32 128) refl) (bytes-pairs 128 0 (omega arith))

bytes-copies : (n : ℕ) → Bytes (copies n)
unfolding copies repeated low
bytes-copies zero i = omega arith
bytes-copies (suc n) i = bytes-append repeated (copies n) (bytes_low repeated refl) (bytes-copies n) i

bytes-list : Bytes full_list
unfolding full_list break break_head longest low
bytes-list =
    bytes-append (be32 64) (break ++ (copies 62 ++ longest)) (bytes_low (be32 64) refl)
    (bytes-append break (copies 62 ++ longest) (bytes-append break_head (zeros 64) (bytes_low break_head refl) (bytes-zeros 64))
    (bytes-append (copies 62) longest (bytes-copies 62) (bytes_low longest refl)))

bytes-wide : Bytes wide_machine
unfolding wide_machine wide_head wide_classes wide_entry low
bytes-wide =
    bytes-append wide_head (wide_classes ++ (zeros 510 ++ wide_entry)) (bytes_low wide_head refl)
    (bytes-append wide_classes (zeros 510 ++ wide_entry) (bytes_low wide_classes refl)
    (bytes-append (zeros 510) wide_entry (bytes-zeros 510) (bytes_low wide_entry refl)))

bytes-tall : Bytes tall_machine
unfolding tall_machine tall_head tall_entries low
bytes-tall =
    bytes-append tall_head ((1 ∷ []) ++ (zeros 1023 ++ tall_entries)) (bytes_low tall_head refl)
    (bytes-append (1 ∷ []) (zeros 1023 ++ tall_entries) (bytes_low (1 ∷ []) refl)
    (bytes-append (zeros 1023) tall_entries (bytes-zeros 1023) (bytes_low tall_entries refl)))

bytes-front : (Bytes header) × (Bytes (offsets 3138)) × (Bytes (offsets 3673)) × (Bytes (lookup_of 0)) × (Bytes (lookup_of 20))
unfolding header offsets lookup_of low
bytes-front =
    (bytes_low header refl, bytes_low (offsets 3138) refl, bytes_low (offsets 3673) refl, bytes_low (lookup_of 0) refl, bytes_low (lookup_of 20) refl)

pub full-bytes : Bytes full_table
unfolding full_table
full-bytes =
    bytes-append header from-horizontal bytes-front.0
    (bytes-append (offsets 3138) (lookup_of 0 ++ from-vertical) bytes-front.1
    (bytes-append (lookup_of 0) from-vertical bytes-front.3
    (bytes-append (offsets 3673) (lookup_of 0 ++ from-cluster) bytes-front.2
    (bytes-append (lookup_of 0) from-cluster bytes-front.3
    (bytes-append full_cluster from-wide bytes-cluster
    (bytes-append (zeros 8) (wide_machine ++ from-tall) (bytes-zeros 8)
    (bytes-append wide_machine from-tall bytes-wide
    (bytes-append (zeros 8) (tall_machine ++ from-actions) (bytes-zeros 8)
    (bytes-append tall_machine from-actions bytes-tall
    (bytes-append (lookup_of 20) from_list bytes-front.4
    (bytes-append full_list (zeros 27179) bytes-list (bytes-zeros 27179))))))))))))
