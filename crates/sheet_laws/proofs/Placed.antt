-- The refusals of the calls that write a sheet, judge it and ask it have offset 0 unless their number is 4 to 8 (document 02, 4/14).
use Rattle.std.specs.Prelude.{Ok, Err}
use Prim.Native.Nat.{ℕ}
use mathlib.Core.Path.{◌≡◌, refl}
use mathlib.Core.Bool.{Bool, true, false, cond}
use mathlib.Core.Logic.{inr}
use mathlib.Core.List.{List, ◌++◌}
use native.Mathlib.Omega.{arith}
use lib.Dec.{leb}
use lib.ListN.{length, drop}
use Rattle.fields.specs.Faults.{FirstFault}
use Rattle.fields.specs.Faults.{Clear, Bad}
use Rattle.fields.specs.Refusals.{number_of}
use Rattle.meaning.specs.Sheet.{IsSheet}
use Rattle.meaning.specs.Ask.{Question}
use Rattle.answers.specs.Says.{Judgement, accepted, barred, refused as refusedReply}
use Rattle.table.specs.Table.{table_fault}
use Rattle.table_laws.specs.Offsets.{Offset, Placed}
use Rattle.table_laws.proofs.Placed.{placed-bad, placed-table}
use Rattle.sheet_check.specs.Check.{SheetChecked}
use Rattle.sheet_ask.specs.Calls.{SheetReply}
use Rattle.sheet_write.specs.Written.{refused, bytes, SheetOutcome, sheet_of, length_by, sheet_length, stored, written_by, written}

module _ (t : List ℕ) (n number at : ℕ) where
  pub placed-length : sheet_length t n ≡ refused number at → Offset number at
  unfolding sheet_length
  placed-length e = go (table_fault t n) (placed-table t n) e
    where
      go : (f : FirstFault) → Placed f → length_by f (sheet_of t n) ≡ refused number at → Offset number at
      go (Ok u) p e = let z : ◌≡◌ {A = ℕ} 0 1 = cc in absurd (omega arith)
      go (Err f) p e = let k : number_of f.refusal ≡ number = cc in let j : f.at ≡ at = cc in rw (k, j) at (placed-bad p refl)

  -- 16 has offset 0
  short : (sheet room : List ℕ) → (stored sheet room).said ≡ refused number at → at ≡ 0
  unfolding stored
  short sheet room e = go (leb (length sheet) (length room)) e
    where
      go : (b : Bool) → (cond {A = SheetOutcome} b (record { said = bytes (length sheet); room = sheet ++ drop (length sheet) room }) (record { said = refused 16 0; room = room })).said ≡ refused number at → at ≡ 0
      go true e = let z : ◌≡◌ {A = ℕ} 0 1 = cc in absurd (omega arith)
      go false e = cc

  pub placed-written : (room : List ℕ) → (written t n room).said ≡ refused number at → Offset number at
  unfolding written written_by
  placed-written room e = go (table_fault t n) (placed-table t n) e
    where
      go : (f : FirstFault) → Placed f → (written_by f (sheet_of t n) room).said ≡ refused number at → Offset number at
      go (Ok u) p e = inr (short (sheet_of t n) room e)
      go (Err f) p e = let k : number_of f.refusal ≡ number = cc in let j : f.at ≡ at = cc in rw (k, j) at (placed-bad p refl)

module _ (s : List ℕ) (number at : ℕ) where
  pub placed-sheet : SheetChecked s (barred number at) → Offset number at
  placed-sheet h = inr h.1

  pub placed-reply : (c : Judgement) → SheetChecked s c → (q : Question) → SheetReply s q (refusedReply number at) → Offset number at
  unfolding IsSheet
  placed-reply accepted (m, v, w) q r = let e = r.answer m v w in let z : ◌≡◌ {A = ℕ} 0 1 = cc in absurd (omega arith)
  placed-reply (barred x y) h q r = let e = r.refusal h.2 in inr (cc)
