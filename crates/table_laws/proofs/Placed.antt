-- What a call answers of a table's fault has offset 0 unless its number is 4 to 8 (document 02, 4/14).
use Rattle.fields.proofs.Laws.{bad-refusal, bad-at}
use Rattle.fields.specs.Faults.{earlier}
use Rattle.std.specs.Prelude.{Ok, Err}
use Prim.Native.Nat.{ℕ}
use mathlib.Core.Path.{◌≡◌, refl}
use mathlib.Core.Bool.{Bool, true, false}
use mathlib.Core.Logic.{inl, inr}
use mathlib.Core.List.{List}
use native.Mathlib.Omega.{arith}
use Rattle.fields.specs.declared.Refusal.{Refusal}
use Rattle.fields.specs.Faults.{FirstFault}
use Rattle.fields.specs.Faults.{Clear, Bad}
use Rattle.fields.specs.Refusals.{number_of}
use Rattle.fields.specs.Faults.{◌then◌, rule}
use Rattle.meaning.specs.Ask.{Answer}
use Rattle.answers.specs.Says.{barred, judged_by, refused, unless_bad}
use Rattle.table.specs.Table.{table_fault}
use Rattle.table_laws.specs.Order.{OfTable, of_none, of-header, of_part}
use Rattle.table_laws.specs.Offsets.{Offset, Placed, nowhere, somewhere}
use Rattle.table_laws.proofs.Numbers.{of-table}

-- what is said of a fault is said of its answer
pub placed-bad : {f : FirstFault} {r : Refusal} {at : ℕ} → Placed f → f ≡ Bad r at → Offset (number_of r) at
placed-bad nowhere e = let z : ◌≡◌ {A = ℕ} 0 1 = cc in absurd (omega arith)
placed-bad (somewhere s p o) e = go e o
  where
    go : {s r : Refusal} {p at : ℕ} → Bad s p ≡ Bad r at → Offset (number_of s) p → Offset (number_of r) at
    go {s} {r} {p} {at} e o = let q : s ≡ r = bad-refusal e in let k : p ≡ at = bad-at e in rw (q, k) at o

-- ---- chains

infixr 20 ◌and◌
pub ◌and◌ : {f g : FirstFault} → Placed f → Placed g → Placed (f then g)
unfolding earlier
nowhere and q = q
(somewhere r at o) and q = somewhere r at o

pub zero-at : (b : Bool) (r : Refusal) → Placed (rule b r 0)
unfolding rule
zero-at true r = nowhere
zero-at false r = somewhere r 0 (inr refl)

-- ---- a table

placed_of : {f : FirstFault} → OfTable f → Placed f
placed_of of_none = nowhere
placed_of (of-header r h) = somewhere r 0 (inr refl)
placed_of (of_part r at l h) = somewhere r at (inl (l, h))

module _ (t : List ℕ) (n : ℕ) where
  pub placed-table : Placed (table_fault t n)
  placed-table = placed_of (of-table t n)

  -- the calls that judge a table, and those that ask it
  pub placed-check : (number at : ℕ) → judged_by (table_fault t n) ≡ barred number at → Offset number at
  placed-check number at e = go (table_fault t n) placed-table e
    where
      go : (f : FirstFault) → Placed f → judged_by f ≡ barred number at → Offset number at
      go (Ok u) p e = let z : ◌≡◌ {A = ℕ} 0 1 = cc in absurd (omega arith)
      go (Err f) p e = let k : number_of f.refusal ≡ number = cc in let j : f.at ≡ at = cc in rw (k, j) at (placed-bad p refl)

  pub placed-asked : (a : Answer) (number at : ℕ) → unless_bad (table_fault t n) a ≡ refused number at → Offset number at
  placed-asked a number at e = go (table_fault t n) placed-table e
    where
      go : (f : FirstFault) → Placed f → unless_bad f a ≡ refused number at → Offset number at
      go (Ok u) p e = let z : ◌≡◌ {A = ℕ} 0 1 = cc in absurd (omega arith)
      go (Err f) p e = let k : number_of f.refusal ≡ number = cc in let j : f.at ≡ at = cc in rw (k, j) at (placed-bad p refl)
