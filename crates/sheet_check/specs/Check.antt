-- What the check of a sheet says (document 01, "The sheet" and "Numbers of refusal", 17): bytes are accepted exactly when they are written for some
-- meaning that keeps its limits, and are refused with 17, offset 0 (document 02, 4/14), otherwise.
use Rattle.std.specs.Prelude.{ℕ, ◌≡◌, List}
use Rattle.answers.specs.Says.{Judgement, accepted, barred}
use Rattle.meaning.specs.Sheet.{IsSheet}

abbrev pub SheetChecked : List ℕ → Judgement → Type 0
SheetChecked bytes accepted = IsSheet bytes
SheetChecked bytes (barred number at) = (number ≡ 17) × (at ≡ 0) × (IsSheet bytes → ⊥)
