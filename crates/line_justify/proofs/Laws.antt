-- A list that takes the verdicts that are told one after the other.
use Prim.Native.Nat.{ℕ, zero, suc, ◌<◌}
use mathlib.Core.Path.{◌≡◌, refl, sym, ap, ◌∙◌}
use mathlib.Core.List.{List, [], ◌∷◌}
use native.Mathlib.Omega.{arith}
use lib.ListN.{length, set, drop, length-drop}
use Rattle.types.specs.declared.Verdict.{Verdict}
use Rattle.line_verdicts.specs.declared.VerdictCursor.{VerdictCursor}
use Rattle.line_verdicts.specs.Bits.{told, left_at, start_cursor, Serves}
use Rattle.line_verdicts.proofs.Told.{start_left, start-serves}
use Rattle.line_justify.specs.Stored.{filled_with}

-- none yet
pub stored-none : (vs ys : List Verdict) → filled_with vs 0 ys ≡ ys
unfolding filled_with
stored-none vs ys = refl

no-cons : {v : Verdict} {rest : List Verdict} → ◌≡◌ {A = List Verdict} [] (v ∷ rest) → ⊥
no-cons e = let z : ◌≡◌ {A = ℕ} 0 1 = cc in omega arith

-- one more, where it is the next of the verdicts
pub stored_next : (vs ys : List Verdict) (i : ℕ) (v : Verdict) (rest : List Verdict) → drop i vs ≡ v ∷ rest → i < length ys
    → set (filled_with vs i ys) i v ≡ filled_with vs (suc i) ys
unfolding filled_with
stored_next vs [] i v rest e k = absurd (omega arith)
stored_next [] (y ∷ ys) zero v rest e k = absurd (no-cons e)
stored_next [] (y ∷ ys) (suc i) v rest e k = absurd (no-cons e)
stored_next (x ∷ vs) (y ∷ ys) zero v rest e k = let w : v ≡ x = cc in ap (λ (u : Verdict). u ∷ ys) w
stored_next (x ∷ vs) (y ∷ ys) (suc i) v rest e k = ap (λ (l : List Verdict). x ∷ l) (stored_next vs ys i v rest e (omega arith))

drop-next : (vs : List Verdict) (i : ℕ) (v : Verdict) (rest : List Verdict) → drop i vs ≡ v ∷ rest → drop (suc i) vs ≡ rest
drop-next [] zero v rest e = absurd (no-cons e)
drop-next [] (suc i) v rest e = absurd (no-cons e)
drop-next (x ∷ vs) zero v rest e = cc
drop-next (x ∷ vs) (suc i) v rest e = drop-next vs i v rest e

-- a cursor where i of the verdicts are taken
pub record Taken (bits : List ℕ) (i : ℕ) (c : VerdictCursor) : Type 0 where
  pub left : left_at bits c ≡ drop i (told bits)
  pub serves : Serves bits c

module _ (bits : List ℕ) where
  -- none is taken
  pub taken-first : {c : VerdictCursor} → c ≡ start_cursor → Taken bits 0 c
  taken-first e = rw e (record { left = start_left bits; serves = start-serves bits })

  module _ (i : ℕ) (c : VerdictCursor) (k : Taken bits i c) where
    -- where there are more, one is left
    pub one_left : i < length (told bits) → 0 < length (left_at bits c)
    one_left h = omega (arith, h, length-drop i (told bits), ap (λ (vs : List Verdict). length vs) k.left)

    module _ (v : Verdict) (past : VerdictCursor) (e : left_at bits c ≡ v ∷ left_at bits past) where
      -- the next of them is taken
      pub taken-verdict : drop i (told bits) ≡ v ∷ left_at bits past
      taken-verdict = sym k.left ∙ e

      pub taken_next : Serves bits past → Taken bits (suc i) past
      taken_next h = record { left = sym (drop-next (told bits) i v (left_at bits past) taken-verdict); serves = h }
