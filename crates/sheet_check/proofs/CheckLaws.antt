-- What the check of a sheet says, by the test.
use Rattle.std.specs.Prelude.{◌≡◌, ℕ, Bool, true, false, List}
use Rattle.std.proofs.Common.{refl, sym, subst}
use Rattle.fields.specs.Faults.{FirstFault, rule}
use Rattle.fields.specs.declared.Refusal.TheVariants.{NotSheet}
use Rattle.encoding.specs.Tests.{Says}
use Rattle.meaning.specs.Sheet.{IsSheet}
use Rattle.answers.specs.Says.{judged_by}
use Rattle.sheet_check.specs.Check.{SheetChecked}

pub checked-says : (s : List ℕ) (b : Bool) (r : FirstFault) → r ≡ rule b NotSheet 0 → Says b (IsSheet s) → SheetChecked s (judged_by r)
unfolding rule
checked-says s true r e h = subst (λ (x : FirstFault). SheetChecked s (judged_by x)) (sym e) h
checked-says s false r e h = subst (λ (x : FirstFault). SheetChecked s (judged_by x)) (sym e) (refl, refl, h)
