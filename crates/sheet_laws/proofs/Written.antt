-- What the writer's promise gives for an accepted table: the sheet that it wrote is the bytes of the table's meaning, and the length that is answered is
-- the sheet's.
use Rattle.std.specs.Prelude.{Result, Ok, Err}
use Rattle.fields.specs.declared.Fault.{Fault}
use Prim.Native.Nat.{ℕ, ◌≤◌}
use mathlib.Core.Bool.{Bool, true, false, cond}
use mathlib.Core.Path.{◌≡◌, refl, sym, ap, ◌∙◌}
use mathlib.Core.List.{List, ◌++◌}
use native.Mathlib.Omega.{arith}
use lib.Dec.{leb}
use lib.ListN.{length, drop}
use lib.Seq.{take-append_seam}
use Rattle.table.specs.Table.{Accepted}
use Rattle.sheet_write.specs.Written.{sheet_of, Said, refused, bytes, says_length, says_written, SheetOutcome, stored}
use Rattle.sheet_write.proofs.Laws.{length-clear, written-clear, stored-fits}
use Rattle.sheet_laws.specs.Writing.{LengthAnswered, Wrote, FirstBytes, SheetBy}

-- ---- an answer by what it says

one_size : (a b : ℕ) → bytes a ≡ bytes b → a ≡ b
one_size a b e = cc

-- whether a refusal is said
barred : Said → ℕ
barred (refused n at) = 1
barred (bytes k) = 0

no_size : (a : ℕ) {b at : ℕ} → bytes a ≡ refused b at → ⊥
unfolding barred
no_size a e = let q : ◌≡◌ {A = ℕ} 0 1 = ap barred e in omega arith

said-length : (l : Result ℕ Fault) (k : ℕ) → says_length l ≡ bytes k → l ≡ Ok k
said-length (Ok n) k e = ap Ok (one_size n k e)
said-length (Err f) k e = absurd (no_size k (sym e))

said-written : (w : Result ℕ Fault) (k : ℕ) → says_written w ≡ bytes k → w ≡ Ok k
said-written (Ok n) k e = ap Ok (one_size n k e)
said-written (Err f) k e = absurd (no_size k (sym e))

-- ---- bytes stored in a room

-- where a size is answered, it is the sheet's, and the sheet stands first in the room
stored_bytes : (sheet room after : List ℕ) (k : ℕ) → ◌≡◌ {A = SheetOutcome} (record { said = bytes k; room = after }) (stored sheet room)
    → (k ≡ length sheet) × (after ≡ sheet ++ drop (length sheet) room)
unfolding stored
stored_bytes sheet room after k = go (leb (length sheet) (length room))
  where
    go : (b : Bool)
        → ◌≡◌ {A = SheetOutcome} (record { said = bytes k; room = after })
        (cond b (record { said = bytes (length sheet); room = sheet ++ drop (length sheet) room }) (record { said = refused 16 0; room = room }))
        → (k ≡ length sheet) × (after ≡ sheet ++ drop (length sheet) room)
    go true e = (one_size k (length sheet) (ap (λ (o : SheetOutcome). o.said) e), ap (λ (o : SheetOutcome). o.room) e)
    go false e = absurd (no_size k (ap (λ (o : SheetOutcome). o.said) e))

-- the first bytes of a room that begins with the sheet, as many as the sheet has
first-bytes : (size : ℕ) (after s sheet rest : List ℕ) → FirstBytes size after s → size ≡ length sheet → after ≡ sheet ++ rest → s ≡ sheet
first-bytes size after s sheet rest f l e = cc (take-append_seam sheet rest)

-- ---- an accepted table

module _ (t : List ℕ) (n : ℕ) (a : Accepted t n) where
  pub the-sheet : (s : List ℕ) → SheetBy t n s → s ≡ sheet_of t n
  unfolding Accepted
  the-sheet s r =
      let held = stored_bytes (sheet_of t n) r.before r.after r.size (r.run ∙ sym (written-clear t n r.before a)) in
      first-bytes r.size r.after s (sheet_of t n) _ r.sheet held.0 held.1

  pub measured : (l : Result ℕ Fault) → LengthAnswered t n l → l ≡ Ok (length (sheet_of t n))
  unfolding Accepted
  measured l e = said-length l (length (sheet_of t n)) (e ∙ sym (length-clear t n (length (sheet_of t n)) a refl))

  pub never-refused : (before after : List ℕ) (w : Result ℕ Fault) → Wrote t n before w after → length (sheet_of t n) ≤ length before
      → w ≡ Ok (length (sheet_of t n))
  unfolding Accepted
  never-refused before after w e h =
      said-written w (length (sheet_of t n))
      (ap (λ (o : SheetOutcome). o.said)
      (e ∙ sym (written-clear t n before a) ∙ sym (stored-fits (sheet_of t n) before _ (length (sheet_of t n)) refl h refl)))

  -- into a room that is as long as the sheet it is written whole
  pub a-sheet : SheetBy t n (sheet_of t n)
  unfolding Accepted
  a-sheet =
      let sheet = sheet_of t n in
      record {
        before = sheet;
        after = sheet ++ drop (length sheet) sheet;
        size = length sheet;
        run = stored-fits sheet sheet _ (length sheet) refl (omega arith) refl ∙ written-clear t n sheet a;
        sheet = sym (take-append_seam sheet (drop (length sheet) sheet));
      }
