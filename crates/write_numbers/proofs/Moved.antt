-- An index joins those listed in `others`: the later ones move up, the last one first.
use Prim.Native.Nat.{ℕ, ◌+◌, ◌≤◌, ◌<◌}
use mathlib.Core.Path.{◌≡◌, ap, ◌∙◌}
use mathlib.Core.List.{List}
use native.Mathlib.Omega.{arith}
use lib.ListN.{length, get_or, set, length-set}
use lib.Seq.{get_or-set_same, get_or-set_other}
use Rattle.write_numbers.specs.Numbered.{Inserted}

-- those from the index i on have moved up by one
pub record Moved (others₀ others : List ℕ) (i : ℕ) : Type 0 where
  pub size : length others ≡ length others₀
  pub before : (s : ℕ) → s < i → get_or others s 0 ≡ get_or others₀ s 0
  pub after : (s : ℕ) → i ≤ s → s ≤ get_or others₀ 0 0 → get_or others (s + 1) 0 ≡ get_or others₀ s 0

pub moved-stored : (others₀ others : List ℕ) (n index : ℕ) → n ≤ get_or others₀ 0 0 → n + 1 < length others₀ → Moved others₀ others (n + 1)
    → Inserted others₀ (set (set others (n + 1) index) 0 (get_or others₀ 0 0 + 1)) n index
moved-stored others₀ others n index h l m =
    record {
      more = get_or-set_same (set others (n + 1) index) 0 _ 0 (omega (arith, m.size, length-set others (n + 1) index));
      before = λ s b.
          first s ∙ get_or-set_other others (n + 1) (s + 1) _ 0 (λ e. omega arith) ∙ m.before (s + 1) (omega arith);
      here = first n ∙ get_or-set_same others (n + 1) _ 0 (omega (arith, m.size));
      after = λ s b r.
          let q : s + 2 ≡ s + 1 + 1 = omega arith in
          ap (λ (j : ℕ). get_or (set (set others (n + 1) index) 0 (get_or others₀ 0 0 + 1)) j 0) q
          ∙ first (s + 1) ∙ get_or-set_other others (n + 1) (s + 1 + 1) _ 0 (λ e. omega arith) ∙ m.after (s + 1) (omega arith) (omega arith);
    }
  where
    first : (s : ℕ) → get_or (set (set others (n + 1) index) 0 (get_or others₀ 0 0 + 1)) (s + 1) 0 ≡ get_or (set others (n + 1) index) (s + 1) 0
    first s = get_or-set_other (set others (n + 1) index) 0 (s + 1) _ 0 (λ e. omega arith)
