-- Bytes that stand at a place of a table: what is read there, and parts without a fault one after the other.
use Prim.Native.Nat.{ℕ, zero, suc, ◌+◌, ◌*◌, ◌≤◌, ◌<◌}
use mathlib.Core.Path.{◌≡◌, refl, ap, ◌∙◌}
use mathlib.Core.List.{List, ◌++◌}
use native.Mathlib.Omega.{arith}
use lib.ListN.{length, get_or, length-append, length-replicate, get_or-replicate, get_or-append}
use lib.Seq.{get_or-append-add}
use Rattle.fields.specs.Faults.{FirstFault}
use Rattle.fields.specs.Faults.{Clear}
use Rattle.fields.specs.Field.{u16_at, u32_at}
use Rattle.fields.specs.Faults.{◌then◌, inside}
use Rattle.fields.specs.Walk.{walk, each}
use Rattle.fields.proofs.Laws.{then-go, clear-inside}
use Rattle.table_limits.specs.Full.{zeros}

-- ---- what stands at a place

pub record Stands (t : List ℕ) (at : ℕ) (l : List ℕ) : Type 0 where
  pub byte : (i : ℕ) → i < length l → get_or t (at + i) 0 ≡ get_or l i 0
  pub within : at + length l ≤ length t

pub itself : (t : List ℕ) → Stands t 0 t
itself t = record { byte = λ i h. let e : 0 + i ≡ i = omega arith in ap (λ (k : ℕ). get_or t k 0) e; within = omega arith }

module _ {t : List ℕ} {at : ℕ} (a b : List ℕ) (s : Stands t at (a ++ b)) where
  pub front : Stands t at a
  front =
      record {
        byte = λ i h. s.byte i (omega (arith, length-append a b)) ∙ get_or-append a b 0 i h;
        within = omega (arith, s.within, length-append a b);
      }

  pub back : (n p : ℕ) → length a ≡ n → p ≡ at + n → Stands t p b
  back n p l e =
      record {
        byte = λ i h.
            let q : p + i ≡ at + (length a + i) = omega arith in
            ap (λ (k : ℕ). get_or t k 0) q ∙ s.byte (length a + i) (omega (arith, length-append a b)) ∙ get_or-append-add a b i 0;
        within = omega (arith, s.within, length-append a b);
      }

-- the field at p, which is i bytes past the place
module _ {t : List ℕ} {at : ℕ} {l : List ℕ} (s : Stands t at l) (p i : ℕ) (e : p ≡ at + i) where
  pub found : (width : ℕ) → i + width ≤ length l → inside t p width ≡ Clear
  found width h = clear-inside t p width (omega (arith, s.within))

  pub byte-is : i < length l → get_or t p 0 ≡ get_or l i 0
  byte-is h = ap (λ (k : ℕ). get_or t k 0) e ∙ s.byte i h

  pub u16-is : i + 2 ≤ length l → u16_at t p ≡ u16_at l i
  unfolding u16_at
  u16-is h =
      let a : get_or t p 0 ≡ get_or l i 0 = byte-is (omega arith) in
      let q : p + 1 ≡ at + (i + 1) = omega arith in
      let b : get_or t (p + 1) 0 ≡ get_or l (i + 1) 0 = ap (λ (k : ℕ). get_or t k 0) q ∙ s.byte (i + 1) (omega arith) in
      omega arith

pub u32-is : {t : List ℕ} {at : ℕ} {l : List ℕ} → Stands t at l → (p i : ℕ) → p ≡ at + i → i + 4 ≤ length l → u32_at t p ≡ u32_at l i
unfolding u32_at
u32-is s p i e h =
    let a = u16-is s p i e (omega arith) in
    let b = u16-is s (p + 2) (i + 2) (omega arith) (omega arith) in
    omega arith

-- ---- zeros

pub zeros-length : (n : ℕ) → length (zeros n) ≡ n
unfolding zeros
zeros-length n = length-replicate n 0

pub zeros-at : (n i : ℕ) → i < n → get_or (zeros n) i 0 ≡ 0
unfolding zeros
zeros-at n i h = get_or-replicate n i 0 0 h

-- ---- parts without a fault

infixr 20 ◌so◌
pub ◌so◌ : {f g : FirstFault} → f ≡ Clear → g ≡ Clear → (f then g) ≡ Clear
◌so◌ {f} {g} p q = then-go g p ∙ q

-- n things of one size
pub each-clear : (one : ℕ → FirstFault) (size n at : ℕ) → ((i : ℕ) → i < n → one (at + size * i) ≡ Clear) → each one (λ p. p + size) n at ≡ Clear
unfolding walk
each-clear one size zero at h = refl
each-clear one size (suc n) at h =
    let q : at ≡ at + size * 0 = omega arith in
    (ap one q ∙ h 0 (omega arith)) so each-clear one size n (at + size) (λ i l. further i l)
  where
    further : (i : ℕ) → i < n → one (at + size + size * i) ≡ Clear
    further i l = let q : at + size + size * i ≡ at + size * suc i = omega arith in ap one q ∙ h (suc i) (omega arith)
