-- The first fault of a chain of fields (document 01, "Numbers of refusal": a field is found inside before it is judged).
-- `Bad refusal at`: the refusal, and for 4 to 8 the offset of the first byte of the field that was found or judged; 0 for the others.
use Rattle.std.specs.Prelude.{ℕ, ◌+◌, List, [], ◌∷◌, Bool, true, false, length, leb, Result, Ok, Err}
use Rattle.fields.specs.declared.Refusal.{Refusal}
use Rattle.fields.specs.declared.Refusal.TheVariants.{Outside}
use Rattle.fields.specs.declared.Fault.{Fault}

-- none, or the first one
abbrev pub FirstFault : Type 0
FirstFault = Result Unit Fault

abbrev pub Clear : FirstFault
Clear = Ok tt

abbrev pub Bad : Refusal → ℕ → FirstFault
Bad r at = Err (record { refusal = r; at = at })

-- the first, where it is a fault, else the second
unfoldable pub earlier : FirstFault → FirstFault → FirstFault
earlier (Ok u) g = g
earlier (Err f) g = Err f

infixr 20 ◌then◌
abbrev pub ◌then◌ : FirstFault → FirstFault → FirstFault
f then g = earlier f g

-- no fault where the test holds
unfoldable pub rule : Bool → Refusal → ℕ → FirstFault
rule true r at = Clear
rule false r at = Bad r at

-- refusal 4 unless `width` bytes stand at `at`
unfoldable pub inside : List ℕ → ℕ → ℕ → FirstFault
inside t at width = rule (leb (at + width) (length t)) Outside at

-- the first fault of a list
abbrev pub first_fault : List FirstFault → FirstFault
first_fault [] = Clear
first_fault (f ∷ []) = f
first_fault (f ∷ g ∷ fs) = f then first_fault (g ∷ fs)
