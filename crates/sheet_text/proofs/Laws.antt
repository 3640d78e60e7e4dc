-- The text by what the sheet's writer said and left in its room, and by the length of the input.
use Rattle.std.specs.Prelude.{Result}
use Rattle.fields.specs.declared.Fault.{Fault}
use Rattle.std.specs.Prelude.{Ok, Err}
use Prim.Native.Nat.{ℕ, ◌-◌, ◌≤◌, ◌<◌}
use mathlib.Core.Path.{◌≡◌, refl, sym, ap, ap₂, subst, ◌∙◌}
use mathlib.Core.Bool.{Bool, true, false, cond}
use mathlib.Core.List.{List, ◌++◌}
use native.Mathlib.Omega.{arith}
use lib.Dec.{leb}
use lib.ListN.{length, take, drop, length-take, length-drop}
use lib.Seq.{take_all, take-append_seam}
use borrow.Author.Tests.{leb-true, lt-ltb, le-ltb}
use Rattle.fields.specs.Faults.{FirstFault}
use Rattle.fields.specs.Faults.{Clear, Bad}
use Rattle.fields.specs.declared.Refusal.{Refusal}
use Rattle.fields.specs.Field.{u16_at}
use Rattle.fields.specs.Refusals.{number_of}
use Rattle.table.specs.Table.{table_fault}
use Rattle.sheet_text.specs.Printed.{printed_sheet, printed_refusal}
use Rattle.sheet_text.specs.Laws.{printed-most}
use Rattle.sheet_write.specs.Written.{Said, refused, bytes, says_written, SheetOutcome, sheet_of, stored, written_by, written}
use Rattle.sheet_text.specs.Text.{sheet_room, text_room, text_by, table_text, longest_input, program_text}

-- ---- what the writer said: the text, and that what it wrote is in the room

abbrev text_said : Said → List ℕ → List ℕ
text_said (bytes n) room = printed_sheet (take n room)
text_said (refused number at) room = printed_refusal number

abbrev Fits : Said → Type 0
Fits (bytes n) = n ≤ sheet_room
Fits (refused number at) = Unit

module _ (sheet room : List ℕ) (h : length room ≡ sheet_room) where
  abbrev outcome : Bool → SheetOutcome
  outcome b = cond b (record { said = bytes (length sheet); room = sheet ++ drop (length sheet) room }) (record { said = refused 16 0; room = room })

  outcome-text : (b : Bool) → text_said (outcome b).said (outcome b).room ≡ cond b (printed_sheet sheet) (printed_refusal 16)
  outcome-text true = ap printed_sheet (take-append_seam sheet (drop (length sheet) room))
  outcome-text false = refl

  outcome_fits : (b : Bool) → leb (length sheet) (length room) ≡ b → Fits (outcome b).said
  outcome_fits true e = let l = leb-true (length sheet) (length room) e in omega arith
  outcome_fits false e = tt

  by-text : (f : FirstFault) → text_said (written_by f sheet room).said (written_by f sheet room).room ≡ text_by f sheet
  unfolding written_by stored text_by
  by-text (Ok u) =
      outcome-text (leb (length sheet) (length room)) ∙ ap (λ (k : ℕ). cond (leb (length sheet) k) (printed_sheet sheet) (printed_refusal 16)) h
  by-text (Err f) = refl

  by_fits : (f : FirstFault) → Fits (written_by f sheet room).said
  unfolding written_by stored
  by_fits (Ok u) = outcome_fits (leb (length sheet) (length room)) refl
  by_fits (Err f) = tt

-- by the writer's answer
module _ (t : List ℕ) (n : ℕ) (room : List ℕ) (h : length room ≡ sheet_room) (answer : Result ℕ Fault) (after : List ℕ)
    (e : record { said = says_written answer; room = after } ≡ written t n room) where
  said-text : text_said (says_written answer) after ≡ table_text t n
  unfolding written table_text
  said-text = ap (λ (o : SheetOutcome). text_said o.said o.room) e ∙ by-text (sheet_of t n) room h (table_fault t n)

  said_fits : Fits (says_written answer)
  unfolding written
  said_fits = subst Fits (sym (ap (λ (o : SheetOutcome). o.said) e)) (by_fits (sheet_of t n) room h (table_fault t n))

  pub wrote-text : (k : ℕ) → answer ≡ Ok k → printed_sheet (take k after) ≡ table_text t n
  wrote-text k q = ap (λ (a : Result ℕ Fault). text_said (says_written a) after) (sym q) ∙ said-text

  pub wrote-fits : (k : ℕ) → answer ≡ Ok k → k ≤ sheet_room
  wrote-fits k q = subst (λ (a : Result ℕ Fault). Fits (says_written a)) q said_fits

  pub refused-text : (f : Fault) → answer ≡ Err f → printed_refusal (number_of f.refusal) ≡ table_text t n
  refused-text f q = ap (λ (a : Result ℕ Fault). text_said (says_written a) after) (sym q) ∙ said-text

-- the room for the text of a part of the sheet's room
pub text-room : (n : ℕ) (room : List ℕ) → n ≤ sheet_room → length (printed_sheet (take n room)) ≤ text_room
text-room n room h = printed-most (take n room) sheet_room (omega (arith, length-take n room))

-- ---- the length of the input

module _ (input : List ℕ) where
  pub text-short : length input < 2 → program_text input ≡ printed_refusal 1
  unfolding program_text
  text-short h = simp (lt-ltb (length input) 2 h)

  pub text-long : 2 ≤ length input → longest_input < length input → program_text input ≡ printed_refusal 1
  unfolding program_text
  text-long l h = simp (le-ltb (length input) 2 l, lt-ltb longest_input (length input) h)

  in_table : 2 ≤ length input → length input ≤ longest_input → program_text input ≡ table_text (drop 2 input) (u16_at input 0)
  unfolding program_text
  in_table l h = simp (le-ltb (length input) 2 l, le-ltb longest_input (length input) h)

  -- the table as it is lent, and the glyph count as it was read
  pub text-table : (n : ℕ) → n ≡ u16_at input 0 → 2 ≤ length input → length input ≤ longest_input
      → table_text (take (length input - 2) (drop 2 input)) n ≡ program_text input
  text-table n e l h =
      let d : length (drop 2 input) ≤ length input - 2 = omega (arith, length-drop 2 input) in
      ap₂ table_text (take_all (length input - 2) (drop 2 input) d) e ∙ sym (in_table l h)
