-- The list of 64 actions has no fault wherever it stands, for any glyph count from 1 on; what follows its last action need not be there.
use Prim.Native.Nat.{ℕ, zero, suc, ◌+◌, ◌*◌, ◌%◌, ◌≤◌, ◌<◌}
use mathlib.Core.Path.{◌≡◌, refl, ap, ◌∙◌}
use mathlib.Core.Bool.{true}
use mathlib.Core.List.{List, ◌++◌}
use native.Mathlib.Omega.{arith}
use lib.Dec.{leb, ltb, eqb}
use lib.ListN.{length, get_or, length-append}
use borrow.Author.Tests.{le-leb, lt-ltb}
use Rattle.fields.specs.declared.Refusal.TheVariants.{BadActions}
use Rattle.fields.specs.Faults.{Clear}
use Rattle.fields.specs.Field.{u16_at, u32_at, be32}
use Rattle.fields.specs.Walk.{walk, each}
use Rattle.fields.proofs.Laws.{rule-clear}
use Rattle.actions.specs.Faults.{glyph_fault, count_fault, type0_fault, type5_fault, data_fault, data_size, length_fault, action_fault, actions_fault, list_fault}
use Rattle.table_limits.specs.Full.{zeros, break_head, break, repeated, longest, copies, full_list}
use Rattle.table_limits.proofs.Stands.{Stands, front, back, found, byte-is, u16-is, u32-is, zeros-length, zeros-at, ◌so◌, each-clear}

-- ---- the pieces

repeated-length : length repeated ≡ 12
unfolding repeated
repeated-length = refl

longest-length : length longest ≡ 12
unfolding longest
longest-length = refl

repeated-fields : (u16_at repeated 0 ≡ 127) × (u16_at repeated 2 ≡ 5) × (u32_at repeated 4 ≡ 12) × (u16_at repeated 10 ≡ 0)
unfolding repeated u16_at u32_at
repeated-fields = (refl, refl, refl, refl)

longest-fields : (u16_at longest 0 ≡ 127) × (u16_at longest 2 ≡ 5) × (u32_at longest 4 ≡ 0xFFFFFFFC) × (u16_at longest 10 ≡ 0)
unfolding longest u16_at u32_at
longest-fields = (refl, refl, refl, refl)

copies_length : (k : ℕ) → length (copies k) ≡ 12 * k
unfolding copies
copies_length zero = refl
copies_length (suc k) = length-append repeated (copies k) ∙ omega (arith, repeated-length, copies_length k)

break-size : length break ≡ 84
unfolding break break_head
break-size = length-append break_head (zeros 64) ∙ ap (λ (k : ℕ). 20 + k) (zeros-length 64)

counted : u32_at (be32 64) 0 ≡ 64
unfolding u32_at u16_at
counted = refl

pub list_length : length full_list ≡ 844
unfolding full_list
list_length =
    let a = length-append break (copies 62 ++ longest) in
    let b = length-append (copies 62) longest in
    let e : length (break ++ (copies 62 ++ longest)) ≡ 840 = omega (arith, break-size, copies_length 62, longest-length) in
    length-append (be32 64) (break ++ (copies 62 ++ longest)) ∙ ap (λ (k : ℕ). 4 + k) e

-- the glyph 0 is one of the font's
module _ (t : List ℕ) (n : ℕ) (some : 1 ≤ n) where
  none_below : (x : ℕ) → x ≡ 0 → ltb x n ≡ true
  none_below x e = lt-ltb x n (omega arith)

  -- ---- an action of type 5

  module _ {at : ℕ} {l : List ℕ} (long : ℕ) (s : Stands t at l) (m : length l ≡ 12) (fields : (u16_at l 0 ≡ 127) × (u16_at l 2 ≡ 5) × (u32_at l 4 ≡ long) × (u16_at l 10 ≡ 0))
      (whole : long % 4 ≡ 0) (room : 12 ≤ long) where
    type-is : u16_at t (at + 2) ≡ 5
    type-is = u16-is s (at + 2) 2 refl (omega (arith, m)) ∙ fields.1

    long-is : u32_at t (at + 4) ≡ long
    long-is = u32-is s (at + 4) 4 refl (omega (arith, m)) ∙ fields.2

    data-clear : data_fault t n at 5 ≡ Clear
    unfolding data_fault type5_fault glyph_fault
    data-clear =
        found s (at + 8) 8 refl 2 (omega (arith, m))
        so found s (at + 10) 10 refl 2 (omega (arith, m))
        so rule-clear BadActions (at + 10) (none_below (u16_at t (at + 10)) (u16-is s (at + 10) 10 refl (omega (arith, m)) ∙ fields.3))

    length-clear : length_fault t at ≡ Clear
    unfolding length_fault
    length-clear =
        found s (at + 4) 4 refl 4 (omega (arith, m))
        so rule-clear BadActions (at + 4) (ap (λ (x : ℕ). eqb (x % 4) 0) long-is ∙ ap (λ (x : ℕ). eqb x 0) whole)
        so rule-clear BadActions (at + 4) (ap (λ (x : ℕ). leb (8 + data_size x) (u32_at t (at + 4))) type-is ∙ le-leb 12 (u32_at t (at + 4)) (omega (arith, long-is)))

    action-clear : action_fault t n at ≡ Clear
    unfolding action_fault
    action-clear =
        found s at 0 (omega arith) 2 (omega (arith, m))
        so rule-clear BadActions at (ap (λ (x : ℕ). leb x 127) (u16-is s at 0 (omega arith) (omega (arith, m)) ∙ fields.0))
        so found s (at + 2) 2 refl 2 (omega (arith, m))
        so rule-clear BadActions (at + 2) (ap (λ (x : ℕ). leb x 5) type-is)
        so length-clear
        so (ap (data_fault t n at) type-is ∙ data-clear)

  -- ---- the action of type 0

  module _ {at : ℕ} (s : Stands t at break) where
    head : Stands t at break_head
    unfolding break
    head = front break_head (zeros 64) s

    m : length break_head ≡ 20
    unfolding break_head
    m = refl

    glyphs : Stands t (at + 20) (zeros 64)
    unfolding break
    glyphs = back break_head (zeros 64) s 20 (at + 20) m refl

    fields : (u16_at break_head 0 ≡ 127) × (u16_at break_head 2 ≡ 0) × (u32_at break_head 4 ≡ 84) × (u16_at break_head 18 ≡ 32)
    unfolding break_head u16_at u32_at
    fields = (refl, refl, refl, refl)

    break-type : u16_at t (at + 2) ≡ 0
    break-type = u16-is head (at + 2) 2 refl (omega (arith, m)) ∙ fields.1

    break-long : u32_at t (at + 4) ≡ 84
    break-long = u32-is head (at + 4) 4 refl (omega (arith, m)) ∙ fields.2

    break-count : u16_at t (at + 18) ≡ 32
    break-count = u16-is head (at + 18) 18 refl (omega (arith, m)) ∙ fields.3

    glyph-clear : (i : ℕ) → i < 32 → glyph_fault t n (at + 20 + 2 * i) ≡ Clear
    unfolding glyph_fault u16_at
    glyph-clear i h =
        let z = zeros-length 64 in
        let a : get_or t (at + 20 + 2 * i) 0 ≡ 0 = byte-is glyphs (at + 20 + 2 * i) (2 * i) refl (omega arith) ∙ zeros-at 64 (2 * i) (omega arith) in
        let b : get_or t (at + 20 + 2 * i + 1) 0 ≡ 0 =
        byte-is glyphs (at + 20 + 2 * i + 1) (2 * i + 1) (omega arith) (omega arith) ∙ zeros-at 64 (2 * i + 1) (omega arith) in
        found glyphs (at + 20 + 2 * i) (2 * i) refl 2 (omega arith)
        so rule-clear BadActions (at + 20 + 2 * i) (none_below (u16_at t (at + 20 + 2 * i)) (omega arith))

    count-clear : count_fault t at ≡ Clear
    unfolding count_fault
    count-clear =
        found head (at + 18) 18 refl 2 (omega (arith, m))
        so rule-clear BadActions (at + 18) (ap (λ (x : ℕ). leb 1 x) break-count)
        so rule-clear BadActions (at + 18) (ap (λ (x : ℕ). leb x 32) break-count)
        so rule-clear BadActions (at + 18) (le-leb (20 + 2 * u16_at t (at + 18)) (u32_at t (at + 4)) (omega (arith, break-count, break-long)))

    break-data : data_fault t n at 0 ≡ Clear
    unfolding data_fault type0_fault
    break-data =
        found head (at + 8) 8 refl 4 (omega (arith, m))
        so found head (at + 12) 12 refl 4 (omega (arith, m))
        so found head (at + 16) 16 refl 2 (omega (arith, m))
        so count-clear
        so (ap (λ (k : ℕ). each (glyph_fault t n) (λ p. p + 2) k (at + 20)) break-count ∙ each-clear (glyph_fault t n) 2 32 (at + 20) glyph-clear)

    break-length : length_fault t at ≡ Clear
    unfolding length_fault
    break-length =
        found head (at + 4) 4 refl 4 (omega (arith, m))
        so rule-clear BadActions (at + 4) (ap (λ (x : ℕ). eqb (x % 4) 0) break-long)
        so rule-clear BadActions (at + 4) (ap (λ (x : ℕ). leb (8 + data_size x) (u32_at t (at + 4))) break-type ∙ ap (λ (x : ℕ). leb 20 x) break-long)

    break-clear : action_fault t n at ≡ Clear
    unfolding action_fault
    break-clear =
        found head at 0 (omega arith) 2 (omega (arith, m))
        so rule-clear BadActions at (ap (λ (x : ℕ). leb x 127) (u16-is head at 0 (omega arith) (omega (arith, m)) ∙ fields.0))
        so found head (at + 2) 2 refl 2 (omega (arith, m))
        so rule-clear BadActions (at + 2) (ap (λ (x : ℕ). leb x 5) break-type)
        so break-length
        so (ap (data_fault t n at) break-type ∙ break-data)

  -- ---- the actions in a row

  -- k copies, and then m actions more
  copies-clear : (k m j at : ℕ) → j ≡ k + m → Stands t at (copies k) → ((p : ℕ) → p ≡ at + 12 * k → actions_fault t n m p ≡ Clear) → actions_fault t n j at ≡ Clear
  unfolding walk copies
  copies-clear zero m j at e s h = let q : j ≡ m = omega arith in ap (λ (x : ℕ). actions_fault t n x at) q ∙ h at (omega arith)
  copies-clear (suc k) m zero at e s h = absurd (omega arith)
  copies-clear (suc k) m (suc j) at e s h =
      let here : Stands t at repeated = front repeated (copies k) s in
      let next : at + u32_at t (at + 4) ≡ at + 12 =
      ap (λ (x : ℕ). at + x) (long-is 12 here repeated-length repeated-fields refl (omega arith)) in
      action-clear 12 here repeated-length repeated-fields refl (omega arith)
      so (ap (actions_fault t n j) next
      ∙ copies-clear k m j (at + 12) (omega arith) (back repeated (copies k) s 12 (at + 12) repeated-length refl) (λ p q. h p (omega arith)))

  -- ---- the list

  module _ (at : ℕ) (s : Stands t at full_list) where
    count : Stands t at (be32 64)
    unfolding full_list
    count = front (be32 64) (break ++ (copies 62 ++ longest)) s

    rest : Stands t (at + 4) (break ++ (copies 62 ++ longest))
    unfolding full_list
    rest = back (be32 64) (break ++ (copies 62 ++ longest)) s 4 (at + 4) refl refl

    first : Stands t (at + 4) break
    first = front break (copies 62 ++ longest) rest

    more : Stands t (at + 88) (copies 62 ++ longest)
    more = back break (copies 62 ++ longest) rest 84 (at + 88) break-size (omega arith)

    last : Stands t (at + 832) longest
    last = back (copies 62) longest more 744 (at + 832) (copies_length 62) (omega arith)

    -- it counts 64 actions
    pub list_count : u32_at t at ≡ 64
    list_count = u32-is count at 0 (omega arith) (omega arith) ∙ counted

    last-clear : (p : ℕ) → p ≡ at + 832 → actions_fault t n 1 p ≡ Clear
    unfolding walk
    last-clear p e = ap (action_fault t n) e ∙ action-clear 0xFFFFFFFC last longest-length longest-fields refl (omega arith) so refl

    actions-clear : actions_fault t n 64 (at + 4) ≡ Clear
    unfolding walk
    actions-clear =
        let next : at + 4 + u32_at t (at + 4 + 4) ≡ at + 88 = omega (arith, break-long first) in
        break-clear first
        so (ap (actions_fault t n 63) next ∙ copies-clear 62 1 63 (at + 88) refl (front (copies 62) longest more) (λ p q. last-clear p (omega arith)))

    pub list-clear : list_fault t n at ≡ Clear
    unfolding list_fault
    list-clear =
        found count at 0 (omega arith) 4 (omega arith)
        so rule-clear BadActions at (ap (λ (x : ℕ). leb x 64) list_count)
        so (ap (λ (k : ℕ). actions_fault t n k (at + 4)) list_count ∙ actions-clear)

    -- its first action has 32 components
    pub list-components : u16_at t (at + 4 + 18) ≡ 32
    list-components = break-count first

    -- the length of its last action
    pub list-last : u32_at t (at + 832 + 4) ≡ 0xFFFFFFFC
    list-last = long-is 0xFFFFFFFC last longest-length longest-fields refl (omega arith)
