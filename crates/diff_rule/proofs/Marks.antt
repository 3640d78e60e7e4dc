-- How two parts differ that both tables have.
use mathlib.Core.Path.{◌≡◌, refl}
use mathlib.Core.Logic.{ite}
use mathlib.Core.Option.{some}
use Rattle.std.specs.Prelude.{None, Some}
use Rattle.diff_rule.specs.declared.Mark.TheVariants.{Changed}
use Rattle.diff_rule.specs.Differences.{mark_of}

module _ {A : Type 0} (eq : Discrete A) (x y : A) where
  pub mark-same : x ≡ y → None ≡ mark_of eq (some x) (some y)
  mark-same e = go (eq x y)
    where
      go : (d : Dec (x ≡ y)) → None ≡ ite d None (Some Changed)
      go (yes p) = refl
      go (no p) = absurd (p e)

  pub mark-apart : (x ≡ y → ⊥) → Some Changed ≡ mark_of eq (some x) (some y)
  mark-apart n = go (eq x y)
    where
      go : (d : Dec (x ≡ y)) → Some Changed ≡ ite d None (Some Changed)
      go (yes p) = absurd (n p)
      go (no p) = refl
