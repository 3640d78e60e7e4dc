-- What the bits of a line's glyphs tell, and what is left of it at a cursor.
use Prim.Native.Nat.{ℕ, zero, suc, ◌+◌, ◌-◌, ◌*◌, ◌/◌, ◌%◌, ◌<◌, ◌^◌}
use mathlib.Core.Path.{◌≡◌, refl, sym, ap, ap₂, ◌∙◌, subst}
use mathlib.Core.Bool.{cond}
use mathlib.Core.List.{List, [], ◌∷◌, ◌++◌, append_assoc, append-nil}
use native.Mathlib.Omega.{arith}
use native.Mathlib.Nat.{add-zero, zero-add}
use native.Mathlib.Numerals.{add-one}
use lib.Dec.{eqb}
use lib.ListN.{length, get_or, take, drop, set, length-set, length-drop}
use lib.Seq.{drop-cons, length-take-le, take-suc-set, take_at, drop_at}
use Rattle.types.specs.declared.Verdict.{Verdict}
use Rattle.line_verdicts.specs.declared.VerdictCursor.{VerdictCursor}
use Rattle.line_verdicts.specs.Bits.{verdict_of, bits_tell, tell_from, told_from, told, left_at, start_cursor, BitPairs, Serves, AtHand, tell_at, Takes}
use Rattle.line_verdicts.proofs.Bits.{half-low, tell-zero}

-- ---- one glyph after the other

-- what the glyphs from a place on tell
abbrev pub told_at : List ℕ → ℕ → List Verdict
told_at bits k = told_from k (drop (2 * k) bits)

-- the cursor at a glyph of which nothing is taken
abbrev pub begun_at : List ℕ → ℕ → VerdictCursor
begun_at bits k = record { next = k + 1; number = 0; fires = get_or bits (2 * k) 0; substitutes = get_or bits (2 * k + 1) 0 }

module _ (bits : List ℕ) (k : ℕ) (h : 2 * k + 1 < length bits) where
  drop-two : drop (2 * k) bits ≡ get_or bits (2 * k) 0 ∷ get_or bits (2 * k + 1) 0 ∷ drop (2 * (k + 1)) bits
  drop-two =
      let e : suc (2 * k) ≡ 2 * k + 1 = omega arith in
      let d : suc (2 * k + 1) ≡ 2 * (k + 1) = omega arith in
      drop-cons bits (2 * k) 0 (omega arith)
      ∙ ap (λ (j : ℕ). get_or bits (2 * k) 0 ∷ drop j bits) e
      ∙ ap (λ (l : List ℕ). get_or bits (2 * k) 0 ∷ l) (drop-cons bits (2 * k + 1) 0 h)
      ∙ ap (λ (j : ℕ). get_or bits (2 * k) 0 ∷ get_or bits (2 * k + 1) 0 ∷ drop j bits) d

  told-next : told_at bits k ≡ tell_from k 0 (get_or bits (2 * k) 0) (get_or bits (2 * k + 1) 0) ++ told_at bits (k + 1)
  unfolding told_from
  told-next =
      ap (told_from k) drop-two
      ∙ ap (λ (j : ℕ). tell_from k 0 (get_or bits (2 * k) 0) (get_or bits (2 * k + 1) 0) ++ told_from j (drop (2 * (k + 1)) bits)) (sym (add-one k))

  -- a glyph none of whose actions fires
  pub told-pass : get_or bits (2 * k) 0 ≡ 0 → told_at bits k ≡ told_at bits (k + 1)
  told-pass e =
      told-next
      ∙ ap (λ (vs : List Verdict). vs ++ told_at bits (k + 1))
      (ap (λ (f : ℕ). tell_from k 0 f (get_or bits (2 * k + 1) 0)) e ∙ tell-zero 64 k 0 (get_or bits (2 * k + 1) 0))

  -- a glyph is begun
  pub told-begun : told_at bits k ≡ left_at bits (begun_at bits k)
  unfolding left_at
  told-begun =
      let e : k + 1 - 1 ≡ k = omega arith in
      told-next ∙ ap (λ (p : ℕ). tell_from p 0 (get_or bits (2 * k) 0) (get_or bits (2 * k + 1) 0) ++ told_at bits (k + 1)) (sym e)

  pub begun-serves : get_or bits (2 * k) 0 < 2 ^ 64 → Serves bits (begun_at bits k)
  begun-serves low = record { within = omega arith; begun = λ e. absurd (omega arith); number = omega arith; low = low }

-- where something is told, there is a glyph
told-two : (p : ℕ) (bits : List ℕ) → 0 < length (told_from p bits) → 1 < length bits
unfolding told_from
told-two p [] h = absurd (omega arith)
told-two p (f ∷ []) h = absurd (omega arith)
told-two p (f ∷ s ∷ bits) h = omega arith

pub told-inside : (k : ℕ) (bits : List ℕ) → 0 < length (told_at bits k) → 2 * k + 1 < length bits
told-inside k bits h = omega (arith, told-two k (drop (2 * k) bits) h, length-drop (2 * k) bits)

-- ---- the first of them

told-cut-from : (n p : ℕ) (bits : List ℕ) → told_from p bits ≡ told_from p (take (2 * n) bits) ++ told_from (p + n) (drop (2 * n) bits)
unfolding told_from
told-cut-from zero p bits = ap (λ (q : ℕ). told_from q bits) (sym (add-zero p))
told-cut-from (suc n) p [] = let e : 2 * suc n ≡ suc (suc (2 * n)) = omega arith in rw e
told-cut-from (suc n) p (f ∷ []) = let e : 2 * suc n ≡ suc (suc (2 * n)) = omega arith in rw e
told-cut-from (suc n) p (f ∷ s ∷ bits) =
    let d : suc p + n ≡ p + suc n = omega arith in
    let e : suc (suc (2 * n)) ≡ 2 * suc n = omega arith in
    ap (λ (vs : List Verdict). tell_from p 0 f s ++ vs)
    (told-cut-from n (suc p) bits ∙ ap (λ (q : ℕ). told_from (suc p) (take (2 * n) bits) ++ told_from q (drop (2 * n) bits)) d)
    ∙ sym (append_assoc (tell_from p 0 f s) _ _)
    ∙ ap (λ (j : ℕ). told_from p (take j (f ∷ s ∷ bits)) ++ told_from (p + suc n) (drop j (f ∷ s ∷ bits))) e

told-cut : (n : ℕ) (bits : List ℕ) → told bits ≡ told (take (2 * n) bits) ++ told_at bits n
told-cut n bits = told-cut-from n 0 bits ∙ ap (λ (q : ℕ). told (take (2 * n) bits) ++ told_from q (drop (2 * n) bits)) (zero-add n)

-- what the bits of more glyphs tell begins with what those of fewer tell
pub told-begins : (n : ℕ) (bits : List ℕ) → (rest : List Verdict) × (told bits ≡ told (take (2 * n) bits) ++ rest)
told-begins n bits = (told_at bits n, told-cut n bits)

-- one more glyph is kept
module _ (k : ℕ) (bits : List ℕ) (f s : ℕ) (h : 2 * k + 1 < length bits) where
  two-stored : take (2 * (k + 1)) (set (set bits (2 * k) f) (2 * k + 1) s) ≡ take (2 * k) bits ++ f ∷ s ∷ []
  two-stored =
      let e : 2 * k + 1 ≡ suc (2 * k) = omega arith in
      let d : 2 * (k + 1) ≡ suc (2 * k + 1) = omega arith in
      ap (λ (j : ℕ). take j (set (set bits (2 * k) f) (2 * k + 1) s)) d
      ∙ take-suc-set (set bits (2 * k) f) (2 * k + 1) s (omega (arith, length-set bits (2 * k) f))
      ∙ ap (λ (j : ℕ). take j (set bits (2 * k) f) ++ (s ∷ [])) e
      ∙ ap (λ (l : List ℕ). l ++ (s ∷ [])) (take-suc-set bits (2 * k) f (omega arith))
      ∙ append_assoc (take (2 * k) bits) _ _

  pub told-set : told (take (2 * (k + 1)) (set (set bits (2 * k) f) (2 * k + 1) s)) ≡ told (take (2 * k) bits) ++ tell_from k 0 f s
  unfolding told_from
  told-set =
      let n = length-take-le (2 * k) bits (omega arith) in
      ap told two-stored
      ∙ told-cut k (take (2 * k) bits ++ f ∷ s ∷ [])
      ∙ ap₂ (λ (xs ys : List ℕ). told xs ++ told_from k ys) (take_at (take (2 * k) bits) (f ∷ s ∷ []) (2 * k) n) (drop_at (take (2 * k) bits) (f ∷ s ∷ []) (2 * k) n)
      ∙ ap (λ (vs : List Verdict). told (take (2 * k) bits) ++ vs) (append-nil _)

-- ---- at a cursor

module _ (bits : List ℕ) where
  pub start-serves : Serves bits start_cursor
  start-serves = record { within = omega arith; begun = λ e. refl; number = omega arith; low = omega arith }

  -- nothing is taken: all are left
  pub start_left : left_at bits start_cursor ≡ told bits
  unfolding left_at
  start_left = ap (λ (vs : List Verdict). vs ++ told bits) (tell-zero 64 0 0 0)

  -- nothing is left of the glyph at hand
  pub left-spent : (c : VerdictCursor) → c.fires ≡ 0 → left_at bits c ≡ told_at bits c.next
  unfolding left_at
  left-spent c e =
      ap (λ (vs : List Verdict). vs ++ told_at bits c.next)
      (ap (λ (f : ℕ). tell_from (c.next - 1) c.number f c.substitutes) e ∙ tell-zero (64 - c.number) (c.next - 1) c.number c.substitutes)

  some-begun : (c : VerdictCursor) → Serves bits c → (c.fires ≡ 0 → ⊥) → 0 < c.next
  some-begun c s h = go c.next refl
    where
      go : (k : ℕ) → c.next ≡ k → 0 < k
      go zero e = absurd (h (s.begun e))
      go (suc k) e = omega arith

  pub hand-left : (c : VerdictCursor) → BitPairs bits → Serves bits c → (c.fires ≡ 0 → ⊥) → AtHand c
  hand-left c k s h =
      record { begun = some-begun c s h; few = omega (arith, k.even, k.few, s.within); some = omega (arith, h); low = s.low }

  -- one is taken
  pub left-taken : (c : VerdictCursor) (v : Verdict) (past : VerdictCursor) → Takes c v past → left_at bits c ≡ v ∷ left_at bits past
  unfolding left_at
  left-taken c v past t =
      ap (λ (vs : List Verdict). vs ++ told_at bits c.next) t.first
      ∙ ap (λ (k : ℕ). v ∷ (tell_at past ++ told_at bits k)) (sym t.stays)

  pub serves-taken : (c : VerdictCursor) (v : Verdict) (past : VerdictCursor) → Serves bits c → AtHand c → Takes c v past → Serves bits past
  serves-taken c v past s a t =
      record { within = omega (arith, t.stays, s.within); begun = λ e. absurd (omega (arith, t.stays, a.begun)); number = t.number; low = t.low }

-- ---- the first action that is left of a glyph

module _ (place number f s : ℕ) (some : 0 < f) (low : f < 2 ^ (64 - number)) where
  bit-at-hand : (m : ℕ) → f < 2 ^ m → 0 < m
  bit-at-hand zero h = absurd (omega arith)
  bit-at-hand (suc m) h = omega arith

  pub number-left : number < 64
  number-left = omega (arith, bit-at-hand (64 - number) low)

  one_less : 64 - number ≡ suc (64 - (number + 1))
  one_less = omega (arith, number-left)

  pub low-next : f / 2 < 2 ^ (64 - (number + 1))
  low-next = half-low (64 - (number + 1)) f (subst (λ (m : ℕ). f < 2 ^ m) one_less low)

  tell-next : tell_from place number f s ≡ cond (eqb (f % 2) 1) (verdict_of place number (s % 2) ∷ []) [] ++ tell_from place (number + 1) (f / 2) (s / 2)
  unfolding bits_tell
  tell-next = ap (λ (m : ℕ). bits_tell m place number f s) one_less

  pub tell-pass : f % 2 ≡ 0 → tell_from place number f s ≡ tell_from place (number + 1) (f / 2) (s / 2)
  tell-pass e = tell-next ∙ ap (λ (b : ℕ). cond (eqb b 1) (verdict_of place number (s % 2) ∷ []) [] ++ tell_from place (number + 1) (f / 2) (s / 2)) e

  pub tell-take : (f % 2 ≡ 0 → ⊥) → tell_from place number f s ≡ verdict_of place number (s % 2) ∷ tell_from place (number + 1) (f / 2) (s / 2)
  tell-take h =
      let e : f % 2 ≡ 1 = omega (arith, h) in
      tell-next ∙ ap (λ (b : ℕ). cond (eqb b 1) (verdict_of place number (s % 2) ∷ []) [] ++ tell_from place (number + 1) (f / 2) (s / 2)) e
