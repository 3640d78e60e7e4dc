-- A line is refused exactly when one of the listed faults holds, with the number and the offset of the first (document 01, "Numbers of refusal").
use Prim.Native.Nat.{ℕ, ◌<◌}
use mathlib.Core.Path.{◌≡◌, refl, sym, ap, ap₂, ◌∙◌}
use mathlib.Core.Logic.{inl, inr, ◌↔◌}
use mathlib.Core.Bool.{Bool, false, true≢false}
use mathlib.Core.List.{List, [], ◌∷◌, ◌++◌}
use native.Mathlib.Omega.{arith}
use lib.Dec.{eqb}
use lib.IntN.{ℤ}
use borrow.Author.Tests.{eq-eqb}
use Rattle.fields.specs.declared.Refusal.{Refusal}
use Rattle.std.specs.Prelude.{Ok, Err}
use Rattle.fields.specs.Faults.{FirstFault, Clear, Bad, rule}
use Rattle.fields.proofs.Laws.{then-assoc, then-clear}
use Rattle.encoding.specs.Codes.{All}
use Rattle.table.specs.Table.{table_fault}
use Rattle.table_laws.specs.Order.{FirstIs, NoFault}
use Rattle.table_laws.proofs.Faults.{rule-bad, chain, chain_first, first-chain, chain-free, free-chain}
use Rattle.table_laws.proofs.Numbers.{table-number}
use Rattle.line_rule.specs.Line.{Line}
use Rattle.fields.specs.Refusals.{number_of, one_number}
use Rattle.line_call.specs.Justified.{Lent, side_for, justifies, refuses, worked_fault, line_fault, settled, justified}
use Rattle.line_laws.specs.Bars.{line_parts}

-- ---- a refusal that only one of the faults gives

abbrev pub Spares : Refusal → FirstFault → Type 0
Spares r f = (at : ℕ) → f ≡ Bad r at → ⊥

-- a table is refused with 1 to 8 alone
pub table-spares : (t : List ℕ) (n : ℕ) {r : Refusal} → 8 < number_of r → Spares r (table_fault t n)
table-spares t n {r} h at e = omega (arith, table-number t n e)

pub rule-spares : (r : Refusal) (test : Bool) {s : Refusal} → eqb (number_of r) (number_of s) ≡ false → Spares s (rule test r 0)
rule-spares r test {s} h at q = true≢false (sym (eq-eqb (number_of r) (number_of s) (ap number_of (rule-bad test r s 0 at q).1)) ∙ h)

none_first : (fs : List FirstFault) (r : Refusal) (at : ℕ) → All (Spares r) fs → FirstIs fs r at → ⊥
none_first [] r at h w = w
none_first (f ∷ fs) r at h (inl q) = h.0 at q
none_first (f ∷ fs) r at h (inr (c, w)) = none_first fs r at h.1 w

-- it comes first exactly where that one gives it and those ahead are clear
pub only-first : (ahead : List FirstFault) (f : FirstFault) (behind : List FirstFault) {r : Refusal} {at : ℕ} → All (Spares r) ahead → All (Spares r) behind
    → FirstIs (ahead ++ (f ∷ behind)) r at → NoFault ahead × (f ≡ Bad r at)
only-first [] f behind {r} {at} a b (inl q) = (tt, q)
only-first [] f behind {r} {at} a b (inr (c, w)) = absurd (none_first behind r at b w)
only-first (g ∷ gs) f behind {r} {at} a b (inl q) = absurd (a.0 at q)
only-first (g ∷ gs) f behind {r} {at} a b (inr (c, w)) = let k = only-first gs f behind a.1 b w in ((c, k.0), k.1)

pub first-after : (ahead : List FirstFault) (f : FirstFault) (behind : List FirstFault) {r : Refusal} {at : ℕ} → NoFault ahead → f ≡ Bad r at → FirstIs (ahead ++ (f ∷ behind)) r at
first-after [] f behind {r} {at} a q = inl q
first-after (g ∷ gs) f behind {r} {at} a q = inr (a.0, first-after gs f behind a.1 q)

-- ---- the line

module _ (t : List ℕ) (n : ℕ) (l : Line) (b : Lent) where
  line-chain : line_fault t n l b ≡ chain (line_parts t n l b)
  unfolding line_fault worked_fault
  line-chain = simp (then-assoc, then-clear)

  pub line_first : (r : Refusal) (at : ℕ) → (line_fault t n l b ≡ Bad r at) ↔ FirstIs (line_parts t n l b) r at
  line_first r at = (
    λ e. chain_first (line_parts t n l b) r at (sym line-chain ∙ e),
    λ h. line-chain ∙ first-chain (line_parts t n l b) r at h,
  )

  pub line-free : (line_fault t n l b ≡ Clear) ↔ NoFault (line_parts t n l b)
  line-free = (λ e. chain-free (line_parts t n l b) (sym line-chain ∙ e), λ h. line-chain ∙ free-chain (line_parts t n l b) h)

  -- REFUSED exactly when a listed fault holds, with the first one's number and offset
  pub call-refused : (r : Refusal) (at : ℕ) → ((justified t n l b).answer ≡ refuses (number_of r) at) ↔ FirstIs (line_parts t n l b) r at
  unfolding justified
  call-refused r at = (
    λ e. (line_first r at).0 (go (line_fault t n l b) e),
    λ h. ap (λ (f : FirstFault). (settled f (side_for t n l) l b).answer) ((line_first r at).1 h),
  )
    where
      go : (f : FirstFault) → (settled f (side_for t n l) l b).answer ≡ refuses (number_of r) at → f ≡ Bad r at
      go (Ok u) e = cc
      go (Err x) e = let z : x.at ≡ at = cc in ap₂ Bad (one_number x.refusal r (cc)) z

  -- ANSWERED exactly when none of them does
  pub call-answered : ((z : ℤ) × (k : ℕ) × (v : ℕ) × ((justified t n l b).answer ≡ justifies z k v)) ↔ NoFault (line_parts t n l b)
  unfolding justified
  call-answered = (λ h. line-free.0 (go (line_fault t n l b) h.3), λ h. (_, _, _, ap (λ (f : FirstFault). (settled f (side_for t n l) l b).answer) (line-free.1 h)))
    where
      go : {z : ℤ} {k v : ℕ} (f : FirstFault) → (settled f (side_for t n l) l b).answer ≡ justifies z k v → f ≡ Clear
      go {z} {k} {v} (Ok u) e = refl
      go {z} {k} {v} (Err x) e = cc
