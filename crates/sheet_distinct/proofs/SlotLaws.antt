-- The words of a stretch, mixed one by one.
use Prim.Native.Nat.{ℕ, zero, suc, ◌+◌, ◌-◌, ◌*◌, ◌/◌, ◌%◌, ◌<◌}
use mathlib.Core.Path.{◌≡◌, refl, sym, ap, ◌∙◌}
use mathlib.Core.List.{List}
use native.Mathlib.Omega.{arith}
use Rattle.fields.specs.Field.{u32_at}
use native.Mathlib.Nat.{mul-lt-mul_of_pos_right}
use lib.ListN.{length, take, drop, length-drop}
use lib.Seq.{take_all}
use Rattle.sheet_distinct.specs.Slots.{mixed, mixed_by, slot_of, slot_by}

-- one word more
pub mixed-next : (f : ℕ) (s : List ℕ) (n n' at at' h : ℕ) → n ≡ suc n' → at' ≡ at + 4 → mixed_by f s n at h ≡ mixed_by f s n' at' ((h + u32_at s at) % 4294967296 * f % 4294967296)
unfolding mixed_by
mixed-next f s n n' at at' h e g =
    ap (λ (k : ℕ). mixed_by f s k at h) e ∙ ap (λ (p : ℕ). mixed_by f s n' p ((h + u32_at s at) % 4294967296 * f % 4294967296)) (sym g)

pub mixed-end : (f : ℕ) (s : List ℕ) (n at h : ℕ) → n ≡ 0 → mixed_by f s n at h ≡ h
unfolding mixed_by
mixed-end f s n at h e = ap (λ (k : ℕ). mixed_by f s k at h) e

-- the words with which a stretch ends
pub slot-is : (f slots m : ℕ) (d xs : List ℕ) → d ≡ xs → m ≡ mixed_by f (take (length d - length d % 4) (drop (length d % 4) d)) (length (take (length d - length d % 4) (drop (length d % 4) d)) / 4) 0 0
    → m * slots / 4294967296 ≡ slot_by f slots xs
unfolding slot_by
slot-is f slots m d xs e h =
    let w : take (length d - length d % 4) (drop (length d % 4) d) ≡ drop (length d % 4) d = take_all _ _ (simp length-drop (omega arith)) in
    ap (λ (n : ℕ). n * slots / 4294967296) (h ∙ ap (λ (l : List ℕ). mixed_by f l (length l / 4) 0 0) w)
    ∙ ap (λ (l : List ℕ). mixed_by f (drop (length l % 4) l) (length (drop (length l % 4) l) / 4) 0 0 * slots / 4294967296) e

-- the first factor
mixed-first : (s : List ℕ) (n at h : ℕ) → mixed_by 2654435761 s n at h ≡ mixed s n at h
unfolding mixed mixed_by
mixed-first s zero at h = refl
mixed-first s (suc n) at h = mixed-first s n (at + 4) ((h + u32_at s at) % 4294967296 * 2654435761 % 4294967296)

pub slot-first : (slots : ℕ) (xs : List ℕ) → slot_by 2654435761 slots xs ≡ slot_of slots xs
unfolding slot_of slot_by
slot-first slots xs = ap (λ (n : ℕ). n * slots / 4294967296) (mixed-first (drop (length xs % 4) xs) (length (drop (length xs % 4) xs) / 4) 0 0)

pub few-slots : (h slots : ℕ) → h < 4294967296 → 0 < slots → h * slots < 4294967296 * slots
few-slots h slots p q = mul-lt-mul_of_pos_right p q
